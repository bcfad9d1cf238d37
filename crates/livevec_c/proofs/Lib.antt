-- Names the files of lemmas of `livevec_c`.
pub mod AsBox
pub mod AskedLaws
pub mod BlockLaws
pub mod ColumnAnswers
pub mod ColumnFolds
pub mod Empty
pub mod FoundLaws
pub mod HeldLaws
pub mod KindAnswers
pub mod KindVectorLaws
pub mod NotingLaws
pub mod Openings
pub mod PlainAnswers
pub mod PushedLaws
pub mod Programs
pub mod SetLaws
pub mod Seatless
pub mod Others
pub mod Summing
mod WrittenLaws
pub mod SubtreeLaws
pub mod SeriesLaws
pub mod SeriesWriteLaws
pub mod RemadeLaws
