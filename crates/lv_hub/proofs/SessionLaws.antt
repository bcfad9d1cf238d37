-- Conversations that return some value at their end.
use Rattle.std.proofs.Common.{◌≡◌, ℕ, Option, Result, Ok, Err, MatchResult, IfOk, OnOk, List}
use Rattle.lv_lines.specs.declared.fault.Fault.{Fault}
use Rattle.lv_lines.specs.declared.fault.Fault.TheVariants.{NoMemory, ReadFault, TooLong, WriteFault}
use Rattle.lv_lines.specs.Replies.{LinesServed}

module _ {S T U : Type 0} {step : S → ℕ → List ℕ → List ℕ → S → Type 0} {old new : S} {a b k l : Option (List ℕ)} where
  -- a conversation that ends as another did, and returns something else
  pub lines_served_as : (ended : Result T Fault) (given : U) (result : Result U Fault) → MatchResult ended (λ x. result ≡ Ok given) (λ fault. result ≡ Err fault)
      → LinesServed step old new a b k l ended → LinesServed step old new a b k l result
  lines_served_as (Ok x) given result is c = rw is (record { seen = c.seen; read = c.read; few = c.few; ends = c.ends })
  lines_served_as (Err NoMemory) given result is c = rw is (record { seen = c.seen; read = c.read; few = c.few; ends = c.ends })
  lines_served_as (Err ReadFault) given result is c = rw is (record { seen = c.seen; read = c.read; few = c.few; ends = c.ends })
  lines_served_as (Err TooLong) given result is c = rw is (record { seen = c.seen; read = c.read; few = c.few; ends = c.ends })
  lines_served_as (Err WriteFault) given result is c = rw is (record { seen = c.seen; read = c.read; few = c.few; ends = c.ends })

-- the value that is returned at a good end
pub given_as : {T U : Type 0} (P : U → Type 0) (ended : Result T Fault) (given : U) (result : Result U Fault) → MatchResult ended (λ x. result ≡ Ok given) (λ fault. result ≡ Err fault)
    → P given → IfOk result P
given_as P (Ok x) given result is holds = rw is holds
given_as P (Err fault) given result is holds = rw is tt

-- what holds at a good end
pub done_as : {T U : Type 0} (P : Type 0) (ended : Result T Fault) (given : U) (result : Result U Fault) → MatchResult ended (λ x. result ≡ Ok given) (λ fault. result ≡ Err fault)
    → OnOk ended P → OnOk result P
done_as P (Ok x) given result is holds = rw is holds
done_as P (Err fault) given result is holds = rw is holds
