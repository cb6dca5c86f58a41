pub mod CodecLaws
pub mod OperationLaws
pub mod PageLaws
pub mod RecordLaws
pub mod Rows
pub mod SlotLaws
pub mod Redone
pub mod TextLengths
