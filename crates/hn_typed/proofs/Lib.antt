mod Names
pub mod Prefixes
pub mod FieldsRead
pub mod FirstCauses
pub mod Samples
pub mod OneItem
pub mod OneFault
pub mod WrittenIsRead
pub mod ItemOrFault
