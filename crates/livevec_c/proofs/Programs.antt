-- A new board whose automaton is the program's, or at equal limits.
use Rattle.std.proofs.Common.{◌≡◌, ℕ, List, subst}
use Rattle.lv_geometry.specs.Bounds.{Bounds}
use Rattle.std.specs.Prelude.{Option}
use Rattle.lv_bodies.specs.declared.kinds.Kind.{Kind}
use Rattle.lv_bodies.specs.declared.kinds.Kind.TheVariants as kind
use Rattle.lv_bodies.specs.Parts.{automaton_parts}
use Rattle.lv_bodies.specs.Plain.{plain_value_with}
use Rattle.lv_bodies.specs.Tables.{automaton_operations}
use Rattle.lv_board.specs.Sharing.{IsNewlyShared, Shared}
use Rattle.livevec_c.specs.declared.objects.Object.{Object}
use Rattle.livevec_c.specs.Kinds.{kept_as}
use Rattle.livevec_c.specs.Lives.{OpensBoardAt}

pub newly_alike : (limits : Bounds) (seats stamp : ℕ) (t u : List (List ℕ)) (new : Shared) → t ≡ u → IsNewlyShared limits seats stamp (kept_as 1 automaton_parts (automaton_operations t)) kind.Automaton (plain_value_with t kind.Automaton) new → IsNewlyShared limits seats stamp (kept_as 1 automaton_parts (automaton_operations u)) kind.Automaton (plain_value_with u kind.Automaton) new
newly_alike limits seats stamp t u new same is = subst (λ v. IsNewlyShared limits seats stamp (kept_as 1 automaton_parts (automaton_operations v)) kind.Automaton (plain_value_with v kind.Automaton) new) same is

pub board_alike : (kind : Kind) (k l : Bounds) (seats stamp number : ℕ) (new : Option Object) → k ≡ l → OpensBoardAt kind k seats stamp number new → OpensBoardAt kind l seats stamp number new
board_alike kind k l seats stamp number new same opens = subst (λ j. OpensBoardAt kind j seats stamp number new) same opens
