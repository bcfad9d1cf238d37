-- Names the files of definitions of `lv_transcript`.
pub mod Auditing
pub mod Audits
pub mod Blocks
pub mod FlatEdits
pub mod Fronts
pub mod Joined
pub mod LeastFirst
pub mod Logs
pub mod PutTexts
pub mod ReadTexts
pub mod Seals
pub mod Transcribing
pub mod Transcript
pub mod Unsealing
