pub mod TextOf
