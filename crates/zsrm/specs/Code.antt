-- How the code computes, word by word and place by place. No contract that callers see cites it; proofs/Laws joins it to the rules.
pub mod View
pub mod Gathered
pub mod Masks
pub mod Next
pub mod Leap
pub mod Compact
pub mod Calls
pub mod Underway
pub mod Claims
pub mod Reading
