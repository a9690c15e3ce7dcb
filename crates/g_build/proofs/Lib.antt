mod Indexing
mod Leaving
mod Sums
