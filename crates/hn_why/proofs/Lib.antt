mod Templates
mod Whys
