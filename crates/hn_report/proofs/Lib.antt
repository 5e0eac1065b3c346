mod Names
mod TextReports
mod PrefixTexts
mod AddressTexts
