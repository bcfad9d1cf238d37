-- Names the files of lemmas of `lv_store`.
mod Blocks
pub mod BucketLaws
pub mod ElementsLaws
mod OpensLaws
pub mod PushLaws
pub mod ShowsLaws
