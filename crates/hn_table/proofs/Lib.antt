mod Names
mod Lists
mod Orders
mod Fates
mod Outers
mod Tables
mod OneFate
