-- Names the files of definitions of `lv_lines`.
pub mod AffineFoldLaws
pub mod Faults
pub mod Grammar
pub mod Input
pub mod Numbers
pub mod Output
pub mod Printed
pub mod LineReader
pub mod Replies
pub mod Texts
pub mod Words
