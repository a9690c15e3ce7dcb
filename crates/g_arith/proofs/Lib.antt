mod Growth
mod Numbers
mod Adder
mod Choosing
mod Comparing
mod Moving
mod Shifting
mod Rows
