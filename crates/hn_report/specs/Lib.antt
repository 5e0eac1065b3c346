pub mod RouterReports
pub mod PrefixReports
pub mod AdvertReports
pub mod AddressLines
pub mod UlaLines
