-- What each change of a table makes of its answers, for the crates above.
use Rattle.std.proofs.Common.{◌≡◌, ℕ, Bool, true, false, ◌&&◌, cond, Option, Some, None, option_map, nat_eq, refl, sym, ap, ◌∙◌, inl, inr}
use Rattle.std.proofs.lemmas.Bool.{and_from, and_parts, and_right, cases_Bool, cond-false, cond-true, eq-eqb, eqb-true, false≢true}
use Rattle.std.proofs.lemmas.Option.{none-some, same_Some}
use Rattle.lv_geometry.specs.declared.nodes.Node.{Node}
use Rattle.lv_geometry.specs.Nodes.{covers, is_below, is_node, same_node}
use Rattle.lv_summary.specs.declared.accepted.Accepted.TheVariants.{Held, Installed, Stale}
use Rattle.lv_summary.specs.Changes.{AnswersAlike, HasSize, Keeps, Touches}
use Rattle.lv_summary.specs.Table.{Table, delivery_in, entry_in, fresh_in, has_version, kept_in, touched_in, whole_in}

-- a node is itself
pub same_node-self : (n : Node) → same_node n n ≡ true
same_node-self n = and_from _ _ (eq-eqb n.level n.level refl) (eq-eqb n.number n.number refl)

-- two nodes that are one are equal
pub same_node-eq : (n m : Node) → same_node n m ≡ true → n ≡ m
same_node-eq n m same =
    let parts = and_parts (nat_eq n.level m.level) (nat_eq n.number m.number) same in
    ap (λ l. record n { level = l }) (eqb-true n.level m.level parts.0) ∙ ap (λ i. record m { number = i }) (eqb-true n.number m.number parts.1)

-- a node that is another is of the table if the other is
pub node_of_same : (n m : Node) → same_node n m ≡ true → is_node m ≡ true → is_node n ≡ true
node_of_same n m same member = ap is_node (same_node-eq n m same) ∙ member

module _ {S : Type 0} where
  -- tables of one size have the same whole nodes
  pub whole_in-size : (old new : Table S) → new.size ≡ old.size → (n : Node) → whole_in new n ≡ whole_in old n
  whole_in-size old new size n = ap (λ size. is_node n && is_below n size) size

  -- a node is fresh in both of two tables, or in neither, if they say the same of it
  pub fresh_in-same : (old new : Table S) (n : Node) → whole_in new n ≡ whole_in old n → touched_in new n ≡ touched_in old n → kept_in new n ≡ kept_in old n → fresh_in new n ≡ fresh_in old n
  fresh_in-same old new n whole touched kept =
      ap (λ w. w && has_version (touched_in new n) (kept_in new n)) whole
      ∙ ap (λ edit. whole_in old n && has_version edit (kept_in new n)) touched
      ∙ ap (λ k. whole_in old n && has_version (touched_in old n) k) kept

  -- two tables have the same summary for a node that is as fresh, and has the same kept, in both
  pub entry_in-same : (old new : Table S) (n : Node) → fresh_in new n ≡ fresh_in old n → kept_in new n ≡ kept_in old n → entry_in new n ≡ entry_in old n
  entry_in-same old new n fresh kept =
      ap (λ f. cond f (option_map (λ kept. kept.1) (kept_in new n)) None) fresh
      ∙ ap (λ k. cond (fresh_in old n) (option_map (λ kept. kept.1) k) None) kept

  -- a node that is alike in two tables is as fresh in both, and has the same summary
  pub entry_stays : (old new : Table S) (n : Node) → whole_in new n ≡ whole_in old n → touched_in new n ≡ touched_in old n → kept_in new n ≡ kept_in old n → (fresh_in new n ≡ fresh_in old n) × (entry_in new n ≡ entry_in old n)
  entry_stays old new n whole touched kept =
      let fresh = fresh_in-same old new n whole touched kept in
      (fresh, entry_in-same old new n fresh kept)

  -- a summary that is delivered for a whole node, of the version that it was touched by last, is held if the node is fresh, and else installed
  pub delivery_in-current : (t : Table S) (n : Node) (v : ℕ) → whole_in t n ≡ true → touched_in t n ≡ v → delivery_in t n v ≡ cond (fresh_in t n) Held Installed
  delivery_in-current t n v whole current =
      cond-true (whole_in t n && nat_eq (touched_in t n) v) _ _ (and_from _ _ whole (eq-eqb (touched_in t n) v current))
      ∙ ap (λ v. cond (has_version v (kept_in t n)) Held Installed) (sym current)
      ∙ ap (λ w. cond (w && has_version (touched_in t n) (kept_in t n)) Held Installed) (sym whole)

  -- a table answers like itself
  pub AnswersAlike-self : (t : Table S) → AnswersAlike t t
  AnswersAlike-self t = record { size = refl; touched = λ n. refl; kept = λ n. refl }

  -- a table that answers like one that answers like a third answers like the third
  pub AnswersAlike-along : (t u v : Table S) → AnswersAlike t u → AnswersAlike u v → AnswersAlike t v
  AnswersAlike-along t u v first then =
      record {
        size = then.size ∙ first.size;
        touched = λ n. then.touched n ∙ first.touched n;
        kept = λ n. then.kept n ∙ first.kept n;
      }

  -- tables that answer alike have the same whole nodes
  pub whole_in-alike : (old new : Table S) → AnswersAlike old new → (n : Node) → whole_in new n ≡ whole_in old n
  whole_in-alike old new alike n = whole_in-size old new alike.size n

  -- tables that answer alike have the same fresh nodes
  pub fresh_in-alike : (old new : Table S) → AnswersAlike old new → (n : Node) → fresh_in new n ≡ fresh_in old n
  fresh_in-alike old new alike n = fresh_in-same old new n (whole_in-alike old new alike n) (alike.touched n) (alike.kept n)

  -- tables that answer alike have the same summaries
  pub entry_in-alike : (old new : Table S) → AnswersAlike old new → (n : Node) → entry_in new n ≡ entry_in old n
  entry_in-alike old new alike n = entry_in-same old new n (fresh_in-alike old new alike n) (alike.kept n)

  -- tables that answer alike give the same answers to what is delivered
  pub delivery_in-alike : (old new : Table S) → AnswersAlike old new → (n : Node) (v : ℕ) → delivery_in new n v ≡ delivery_in old n v
  delivery_in-alike old new alike n v =
      ap (λ w. cond (w && nat_eq (touched_in new n) v) (cond (has_version v (kept_in new n)) Held Installed) (Stale (touched_in new n))) (whole_in-alike old new alike n)
      ∙ ap (λ edit. cond (whole_in old n && nat_eq edit v) (cond (has_version v (kept_in new n)) Held Installed) (Stale edit)) (alike.touched n)
      ∙ ap (λ k. cond (whole_in old n && nat_eq (touched_in old n) v) (cond (has_version v k) Held Installed) (Stale (touched_in old n))) (alike.kept n)

  -- another size changes which nodes are whole, and so which are fresh
  pub fresh_in-size : (old new : Table S) (size : ℕ) → HasSize old new size → (n : Node) → fresh_in new n ≡ (is_node n && is_below n size) && has_version (touched_in old n) (kept_in old n)
  fresh_in-size old new size sized n =
      ap (λ s. (is_node n && is_below n s) && has_version (touched_in new n) (kept_in new n)) sized.size_is
      ∙ ap (λ edit. (is_node n && is_below n size) && has_version edit (kept_in new n)) (sized.touched n)
      ∙ ap (λ k. (is_node n && is_below n size) && has_version (touched_in old n) k) (sized.kept n)

  -- a node that is whole before and after keeps its answer
  pub entry_in-size : (old new : Table S) (size : ℕ) → HasSize old new size → (n : Node) → whole_in new n ≡ whole_in old n → (fresh_in new n ≡ fresh_in old n) × (entry_in new n ≡ entry_in old n)
  entry_in-size old new size sized n whole = entry_stays old new n whole (sized.touched n) (sized.kept n)

  -- an edit leaves the edit of a node that has not its index
  pub touched_in-untouched : (old new : Table S) (i edit : ℕ) → Touches old new i edit → (n : Node) → covers n i ≡ false → touched_in new n ≡ touched_in old n
  touched_in-untouched old new i edit touch n apart = touch.touched n ∙ cond-false _ _ _ (and_right (is_node n) (covers n i) apart)

  -- an edit leaves a node that has not its index as fresh as before
  pub fresh_in-untouched : (old new : Table S) (i edit : ℕ) → Touches old new i edit → (n : Node) → covers n i ≡ false → fresh_in new n ≡ fresh_in old n
  fresh_in-untouched old new i edit touch n apart =
      fresh_in-same old new n (whole_in-size old new touch.size n) (touched_in-untouched old new i edit touch n apart) (touch.kept n)

  -- an edit leaves the summary of a node that has not its index
  pub entry_in-untouched : (old new : Table S) (i edit : ℕ) → Touches old new i edit → (n : Node) → covers n i ≡ false → entry_in new n ≡ entry_in old n
  entry_in-untouched old new i edit touch n apart =
      entry_in-same old new n (fresh_in-untouched old new i edit touch n apart) (touch.kept n)

  -- a node that has the index is fresh only if what is kept for it has the edit's number already
  pub fresh_in-touched : (old new : Table S) (i edit : ℕ) → Touches old new i edit → (n : Node) → is_node n ≡ true → covers n i ≡ true → fresh_in new n ≡ whole_in old n && has_version edit (kept_in old n)
  fresh_in-touched old new i edit touch n inside has =
      ap (λ w. w && has_version (touched_in new n) (kept_in new n)) (whole_in-size old new touch.size n)
      ∙ ap (λ e. whole_in old n && has_version e (kept_in new n)) (touch.touched n ∙ cond-true _ _ _ (and_from (is_node n) (covers n i) inside has))
      ∙ ap (λ k. whole_in old n && has_version edit k) (touch.kept n)

  -- what is kept for the node of a summary that was put in place
  pub kept_in-kept : (old new : Table S) (n : Node) (version : ℕ) (s : S) → Keeps old new n version s → kept_in new n ≡ Some (version, s)
  kept_in-kept old new n version s keeps = keeps.kept n ∙ cond-true _ _ _ (same_node-self n)

  -- what is kept for each node has the version that it had, and that of the summary for its node
  pub version_kept : (old new : Table S) (n : Node) (version : ℕ) (s : S) → Keeps old new n version s → (m : Node) → option_map (λ kept. kept.0) (kept_in new m) ≡ cond (same_node m n) (Some version) (option_map (λ kept. kept.0) (kept_in old m))
  version_kept old new n version s keeps m = ap (option_map (λ kept. kept.0)) (keeps.kept m) ∙ option_map_cond (same_node m n) (version, s) (kept_in old m)
    where
      option_map_cond : (b : Bool) (new : ℕ × S) (old : Option (ℕ × S)) → option_map (λ kept. kept.0) (cond b (Some new) old) ≡ cond b (Some new.0) (option_map (λ kept. kept.0) old)
      option_map_cond true new old = refl
      option_map_cond false new old = refl

  -- the node of a summary that was put in place is fresh if it is whole and was touched last by the edit of that number
  pub fresh_in-kept : (old new : Table S) (n : Node) (version : ℕ) (s : S) → Keeps old new n version s → fresh_in new n ≡ whole_in old n && nat_eq version (touched_in old n)
  fresh_in-kept old new n version s keeps =
      ap (λ w. w && has_version (touched_in new n) (kept_in new n)) (whole_in-size old new keeps.size n)
      ∙ ap (λ edit. whole_in old n && has_version edit (kept_in new n)) (keeps.touched n)
      ∙ ap (λ k. whole_in old n && has_version (touched_in old n) k) (kept_in-kept old new n version s keeps)

  -- a whole node, touched last by that edit, has the summary that was put in place
  pub entry_in-kept : (old new : Table S) (n : Node) (version : ℕ) (s : S) → Keeps old new n version s → whole_in old n ≡ true → touched_in old n ≡ version → entry_in new n ≡ Some s
  entry_in-kept old new n version s keeps whole touched =
      let fresh = fresh_in-kept old new n version s keeps ∙ and_from _ _ whole (eq-eqb version (touched_in old n) (sym touched)) in
      cond-true _ _ _ fresh ∙ ap (option_map (λ kept. kept.1)) (kept_in-kept old new n version s keeps)

  -- a summary that was put in place leaves other nodes as fresh as before
  pub fresh_in-other : (old new : Table S) (n : Node) (version : ℕ) (s : S) → Keeps old new n version s → (m : Node) → same_node m n ≡ false → fresh_in new m ≡ fresh_in old m
  fresh_in-other old new n version s keeps m other =
      fresh_in-same old new m (whole_in-size old new keeps.size m) (keeps.touched m) (keeps.kept m ∙ cond-false _ _ _ other)

  -- a summary that was put in place leaves the summaries of other nodes
  pub entry_in-other : (old new : Table S) (n : Node) (version : ℕ) (s : S) → Keeps old new n version s → (m : Node) → same_node m n ≡ false → entry_in new m ≡ entry_in old m
  entry_in-other old new n version s keeps m other =
      entry_in-same old new m (fresh_in-other old new n version s keeps m other) (keeps.kept m ∙ cond-false _ _ _ other)

  -- what has a version is there, with that version
  has_version_kept : (v : ℕ) (kept : Option (ℕ × S)) → has_version v kept ≡ true → (s : S) × (kept ≡ Some (v, s))
  has_version_kept v None has = absurd (false≢true has)
  has_version_kept v (Some (w, s)) has = (s, ap (λ v. Some (v, s)) (eqb-true w v has))

  -- a fresh node has a summary, which is kept at the edit that touched it last
  pub entry_of_fresh : (t : Table S) (n : Node) → fresh_in t n ≡ true → (s : S) × (entry_in t n ≡ Some s) × (kept_in t n ≡ Some (touched_in t n, s))
  entry_of_fresh t n fresh =
      let kept = has_version_kept (touched_in t n) (kept_in t n) (and_parts _ _ fresh).1 in
      (kept.0, cond-true _ _ _ fresh ∙ ap (option_map (λ kept. kept.1)) kept.1, kept.1)

  -- a node with a summary is fresh
  pub fresh_of_entry : (t : Table S) (n : Node) (s : S) → entry_in t n ≡ Some s → fresh_in t n ≡ true
  fresh_of_entry t n s is =
      elim (cases_Bool (fresh_in t n)) [
        | inl fresh ↦ fresh
        | inr stale ↦ absurd (none-some s (sym (cond-false _ _ _ stale) ∙ is))
      ]

  -- a node is fresh only if it is whole
  pub whole_of_fresh : (t : Table S) (n : Node) → fresh_in t n ≡ true → whole_in t n ≡ true
  whole_of_fresh t n fresh = (and_parts (whole_in t n) (has_version (touched_in t n) (kept_in t n)) fresh).0

  -- a node with a summary is whole, and the summary is kept at the edit that touched it last
  pub entry_parts : (t : Table S) (n : Node) (s : S) → entry_in t n ≡ Some s → (whole_in t n ≡ true) × (kept_in t n ≡ Some (touched_in t n, s))
  entry_parts t n s is =
      let fresh = fresh_of_entry t n s is in
      let kept = entry_of_fresh t n fresh in
      (whole_of_fresh t n fresh, kept.2 ∙ ap (λ s. Some (touched_in t n, s)) (same_Some _ _ (sym kept.1 ∙ is)))

  -- a node that is whole is one of the table
  pub node_of_whole : (t : Table S) (n : Node) → whole_in t n ≡ true → is_node n ≡ true
  node_of_whole t n whole = (and_parts (is_node n) (is_below n t.size) whole).0

  -- if the test of a delivery passes, the node is whole, and was touched last by the edit of that number
  current_by_test : (t : Table S) (n : Node) (v : ℕ) → whole_in t n && nat_eq (touched_in t n) v ≡ true → (whole_in t n ≡ true) × (touched_in t n ≡ v)
  current_by_test t n v test =
      let parts = and_parts (whole_in t n) (nat_eq (touched_in t n) v) test in
      (parts.0, eqb-true (touched_in t n) v parts.1)

  -- what is installed is for a node that is whole, and was touched last by the edit of that number
  pub current_of_installed : (t : Table S) (n : Node) (v : ℕ) → delivery_in t n v ≡ Installed → (whole_in t n ≡ true) × (touched_in t n ≡ v)
  current_of_installed t n v is =
      elim (cases_Bool (whole_in t n && nat_eq (touched_in t n) v)) [
        | inl test ↦ current_by_test t n v test
        | inr fails ↦ let stale : Stale (touched_in t n) ≡ Installed = sym (cond-false _ _ _ fails) ∙ is in cc
      ]

  -- what is held already is for a node that is fresh at that version
  pub fresh_of_held : (t : Table S) (n : Node) (v : ℕ) → delivery_in t n v ≡ Held → (fresh_in t n ≡ true) × (touched_in t n ≡ v)
  fresh_of_held t n v is =
      elim (cases_Bool (whole_in t n && nat_eq (touched_in t n) v)) [
        | inl test ↦
            let current = current_by_test t n v test in
            elim (cases_Bool (has_version v (kept_in t n))) [
              | inl has ↦ (and_from _ _ current.0 (ap (λ e. has_version e (kept_in t n)) current.1 ∙ has), current.1)
              | inr lacks ↦ let installed : Installed ≡ Held = sym (cond-true _ _ _ test ∙ cond-false _ _ _ lacks) ∙ is in cc
            ]
        | inr fails ↦ let stale : Stale (touched_in t n) ≡ Held = sym (cond-false _ _ _ fails) ∙ is in cc
      ]
