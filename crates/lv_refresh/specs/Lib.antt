-- Names the files of definitions of `lv_refresh`.
pub mod Carried
pub mod Claim
pub mod ClaimTable
pub mod Contents
pub mod Delivery
pub mod Honesty
pub mod Inner
pub mod Marks
pub mod Record
pub mod Refreshed
pub mod Subtrees
pub mod Sweep
