-- Names the files of lemmas of `lv_server`.
mod BesideLaws
mod LogServedLaws
mod PlainServedLaws
mod RecordingLaws
mod Seats
mod ServedLaws
