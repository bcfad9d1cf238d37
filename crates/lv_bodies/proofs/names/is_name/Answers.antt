-- Proof of `is_name`: whether bytes may be a name.
use Rattle.std.proofs.Common.{arith, rules, tests}
use Rattle.std.proofs.lemmas.Iterator.{YieldsList-from_slice}
use Rattle.std.proofs.lemmas.Iterator.Search.{all_from_yields_List}
use Rattle.std.proofs.lemmas.Bool.Decides.{nat_tests}
use Rattle.lv_bodies.specs.Names.{is_name_byte}
use Rattle.lv_bodies.proofs.names.is_name.Goals as goal
use Rattle.lv_bodies.proofs.names.is_name.Goals.{then-not-is_empty, else-not-is_empty}

pub returns-then-bytes-le16 : goal.returns-then-bytes-le16
returns-then-bytes-le16 c =
    let bytes = c.args.bytes.now in
    let each = all_from_yields_List is_name_byte _ _ c.all.result c.all.ensures.ran (YieldsList-from_slice bytes cc) (λ x b q k. search (rules, tests)) in
    grind (arith, nat_tests)
