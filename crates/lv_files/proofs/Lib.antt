-- Names the files of lemmas of `lv_files`.
mod SealBufferLaws
mod StoreLaws
mod StreamEndLaws
mod WaitedStreams
