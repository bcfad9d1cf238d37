-- Ghost arguments passed in `run_session`.
use Rattle.lv_hub.specs.Session.{most_listed}
use Rattle.lv_hub.proofs.sessions.run_session.Given as goal

abbrev pub ghosts-hold : goal.ghosts-hold
ghosts-hold g a = record { holding = a.share; most = most_listed a.place.keeps; recorded = λ edits entries. g.L.SessionLog.has_recorded a.log.now edits entries }
