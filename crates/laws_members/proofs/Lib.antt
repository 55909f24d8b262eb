mod Listed
mod Named
mod Scripts
