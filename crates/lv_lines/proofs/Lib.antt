-- Names the files of lemmas of `lv_lines`.
pub mod LineLoopLemmas
pub mod LineLoopLaws
pub mod CutWords
pub mod InputLemmas
pub mod LineEnds
pub mod OutputLemmas
pub mod PrintedNumbers
pub mod PrintedWords
pub mod LineReaderLemmas
pub mod ReadAgain
pub mod ReadDigits
pub mod ReadFirst
pub mod ReplyLemmas
