mod Least
mod Searched
mod Found
mod Rows
