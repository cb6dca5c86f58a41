pub mod Grammar
pub mod Lengths
pub mod SlotText
pub mod Laws
pub mod Codec
pub mod Readers
pub mod PageRecords
