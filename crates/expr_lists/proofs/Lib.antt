pub mod SymbolLists
