mod CalmHomes
mod CalmTexts
mod LastHomes
mod Searching
