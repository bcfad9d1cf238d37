-- Proof of `Name::as_bytes`: the bytes of the name.
use Rattle.std.proofs.Common.{◌==◌, ◌∙◌, rules, tests}
use Rattle.std.proofs.lemmas.Iterator.{YieldsList-from_slice}
use Rattle.std.proofs.lemmas.Iterator.Search.{position_from_yields_List}
use Rattle.lv_bodies.proofs.KeptNames.{kept_front}
use Rattle.lv_bodies.proofs.names.Name.as_bytes.Goals as goal

pub returns-clause-bytes : goal.returns-clause-bytes
returns-clause-bytes c =
    let bytes = c.self.inside.bytes in
    let first = position_from_yields_List (λ b. b == 0) _ _ c.position.result c.position.ensures.ran (YieldsList-from_slice bytes cc) (λ x b q k. search (rules, tests)) in
    rw c.unwrap_or-len.ensures (kept_front bytes c.position.result c.self.told first ∙ c.self.view_is)
