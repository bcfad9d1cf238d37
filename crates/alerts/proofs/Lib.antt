-- Names the files of lemmas of `alerts`.
mod Beginnings
mod CountingLaws
mod TellingLaws
mod WatchingLaws
