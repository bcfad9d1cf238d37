-- Names the files of definitions of `lv_shards`.
pub mod Bytes
pub mod LeadsLaws
pub mod Reading
pub mod Shards
pub mod SpelledLaws
pub mod Summaries
