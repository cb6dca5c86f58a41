pub mod Lists
pub mod Buckets
pub mod Split
pub mod Bits
pub mod Chains
pub mod Steps
pub mod Overflow
pub mod Divide
pub mod Doubling
pub mod Keeping
pub mod Looking
pub mod Policy
pub mod Pigeons
pub mod Witness
pub mod Pointers
pub mod Passing
pub mod Searching
pub mod Chaining
pub mod OnePage
mod Listing
pub mod Bucketwise
mod Marks
mod Settled
mod Sounds
mod Breaking
mod Made
pub mod Notes
pub mod Free
pub mod Placing
pub mod Wiring
pub mod Halving
pub mod Composing
pub mod Ruling
