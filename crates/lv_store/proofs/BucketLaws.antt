-- The cells of all buckets, one bucket after another: the place of an index in them, and how a change of one bucket changes them.
use Rattle.std.proofs.Common.{◌≡◌, ℕ, zero, suc, ◌+◌, ◌-◌, ◌*◌, ◌<◌, ◌≤◌, List, [], ◌∷◌, ◌++◌, length, map, fold, take, drop, get_or, set, refl, sym, ap, ◌∙◌, add-one, append_assoc, max, replicate, append-nil, inl, inr, arith}
use Rattle.std.specs.List.{flat_map, range_with_len, sum_by}
use Rattle.std.proofs.Math.Seq.{take-append_seam}
use Rattle.std.proofs.lemmas.Bool.{cases_lt}
use Rattle.std.proofs.lemmas.List.{drop-append-le, drop-drop, drop_at, flat_map_more, get_or-map, length-append, length-drop, length-map, length-set, length-take-le, length_push, map-set, map_push, replicate-append-replicate, set-append_left, set-append_right, set-get_or, take-append-drop, take-append-le, take-map, take_at}
use Rattle.std.proofs.lemmas.List.Concat.{flat_map-append, get_or-flat_map, length-flat_map}
use Rattle.std.proofs.lemmas.List.Folds.{flat_map-map, fold-map}
use Rattle.std.proofs.lemmas.List.FromFn.{get_or-map-range_with_len, map-range_with_len_more, sum_by-map-range_with_len_more, take-map-range_with_len}
use Rattle.std.proofs.lemmas.Nat.{pow_pos}
use Rattle.lv_geometry.specs.Cells.{IsCell, capacity_of, index_of}
use Rattle.lv_geometry.specs.declared.places.Place.{Place}
use Rattle.lv_store.specs.Directory.{Cells, first_buckets, with_bucket, with_buckets}
use Rattle.lv_store.specs.Inner.{AreBuckets}
use Rattle.lv_geometry.proofs.Capacities.{capacity_of_mono, capacity_of_most, capacity_of_next, cells_in}

-- the buckets before a number have as many cells as so many buckets hold
sum_of_sizes : (k : ℕ) → sum_by (λ x. x) (map cells_in (range_with_len 0 k)) ≡ capacity_of k
sum_of_sizes zero = refl
sum_of_sizes (suc k) =
    let next : sum_by (λ x. x) (map cells_in (range_with_len 0 (suc k))) ≡ sum_by (λ x. x) (map cells_in (range_with_len 0 k)) + cells_in k = rw add-one at (sum_by-map-range_with_len_more (λ x. x) cells_in 0 k k (omega arith)) in
    next ∙ ap (λ n. n + cells_in k) (sum_of_sizes k) ∙ rw add-one at (sym (capacity_of_next k))

-- what buckets hold is what is in them, one after another
pub length-cells : {V T : Type 0} (f : V → List T) (vs : List V) → AreBuckets (map f vs) → length (flat_map f vs) ≡ capacity_of (length vs)
length-cells f vs h =
    ap length (sym (flat_map-map (λ b. b) f vs))
    ∙ length-flat_map (λ b. b) (map f vs)
    ∙ sym (fold-map (λ a x. a + x) length 0 (map f vs))
    ∙ ap (fold (λ a x. a + x) 0) h.sizes
    ∙ sum_of_sizes (length (map f vs))
    ∙ ap capacity_of (length-map vs f)

-- they are no more than 1048568
pub cells_few : {V T : Type 0} (f : V → List T) (vs : List V) → AreBuckets (map f vs) → length (flat_map f vs) ≤ 1048568
cells_few f vs h = omega (arith, length-cells f vs h, capacity_of_most (length vs) (omega (arith, h.few, length-map vs f)))

-- the first so many of some buckets are such
pub AreBuckets-take : {V T : Type 0} (f : V → List T) (vs : List V) (k : ℕ) → k ≤ length vs → AreBuckets (map f vs) → AreBuckets (map f (take k vs))
AreBuckets-take f vs k inside h =
    let long : length (map f (take k vs)) ≡ k = length-map (take k vs) f ∙ length-take-le k vs inside in
    record {
      sizes =
          ap (map length) (sym (take-map f k vs))
          ∙ sym (take-map length k (map f vs))
          ∙ ap (take k) h.sizes
          ∙ take-map-range_with_len cells_in 0 (length (map f vs)) k (omega (arith, length-map vs f))
          ∙ ap (λ n. map cells_in (range_with_len 0 n)) (sym long);
      few = omega (arith, long, h.few, length-map vs f);
    }

-- a bucket more, of the size that is next, makes such buckets again
pub AreBuckets-push : {V T : Type 0} (f : V → List T) (vs : List V) (v : V) → length vs < 17 → length (f v) ≡ cells_in (length vs) → AreBuckets (map f vs) → AreBuckets (map f (vs ++ v ∷ []))
AreBuckets-push f vs v room size h =
    let long : length (map f (vs ++ v ∷ [])) ≡ length vs + 1 = length-map (vs ++ v ∷ []) f ∙ length_push vs v in
    record {
      sizes =
          ap (map length) (map_push f vs v)
          ∙ map_push length (map f vs) (f v)
          ∙ ap (λ xs. xs ++ length (f v) ∷ []) (h.sizes ∙ ap (λ n. map cells_in (range_with_len 0 n)) (length-map vs f))
          ∙ ap (λ n. map cells_in (range_with_len 0 (length vs)) ++ n ∷ []) size
          ∙ sym (map-range_with_len_more cells_in 0 (length vs) (length vs) (omega arith))
          ∙ ap (λ n. map cells_in (range_with_len 0 n)) (sym long);
      few = omega (arith, long);
    }

-- the bucket of a number has its size
pub size_at : {V T : Type 0} (f : V → List T) (vs : List V) (k : ℕ) (e : V) → k < length vs → AreBuckets (map f vs) → length (f (get_or vs k e)) ≡ cells_in k
size_at f vs k e inside h =
    let long : length (map f vs) ≡ length vs = length-map vs f in
    ap length (sym (get_or-map f vs k e (f e) inside))
    ∙ sym (get_or-map length (map f vs) k (f e) 0 (omega arith))
    ∙ ap (λ xs. get_or xs k 0) h.sizes
    ∙ get_or-map-range_with_len cells_in 0 (length (map f vs)) k k 0 (omega arith) (omega arith)

-- a bucket in the place of one of its size makes such buckets again
pub AreBuckets-set : {V T : Type 0} (f : V → List T) (vs : List V) (k : ℕ) (v e : V) → k < length vs → length (f v) ≡ length (f (get_or vs k e)) → AreBuckets (map f vs) → AreBuckets (map f (set vs k v))
AreBuckets-set f vs k v e inside size h =
    let long : length (map f (set vs k v)) ≡ length (map f vs) = length-map (set vs k v) f ∙ length-set vs k v ∙ sym (length-map vs f) in
    let within : k < length (map f vs) = omega (arith, length-map vs f) in
    let here : length (f v) ≡ get_or (map length (map f vs)) k 0 = size ∙ ap length (sym (get_or-map f vs k e (f e) inside)) ∙ sym (get_or-map length (map f vs) k (f e) 0 within) in
    record {
      sizes =
          ap (map length) (map-set f vs k v)
          ∙ map-set length (map f vs) k (f v)
          ∙ ap (set (map length (map f vs)) k) here
          ∙ set-get_or (map length (map f vs)) k 0
          ∙ h.sizes
          ∙ ap (λ n. map cells_in (range_with_len 0 n)) (sym long);
      few = omega (arith, long, h.few);
    }

-- a bucket more adds its cells at the end
pub cells_push : {V T : Type 0} (f : V → List T) (vs : List V) (v : V) → flat_map f (vs ++ v ∷ []) ≡ flat_map f vs ++ f v
cells_push f vs v = sym (flat_map_more f [] vs v)

-- the cells before a bucket are as many as the buckets before it hold
pub cells_before : {V T : Type 0} (f : V → List T) (vs : List V) (k : ℕ) → k ≤ length vs → AreBuckets (map f vs) → length (flat_map f (take k vs)) ≡ capacity_of k
cells_before f vs k inside h =
    length-cells f (take k vs) (AreBuckets-take f vs k inside h) ∙ ap capacity_of (length-take-le k vs inside)

-- the first so many buckets have the first cells
pub cells_take : {V T : Type 0} (f : V → List T) (vs : List V) (k : ℕ) → k ≤ length vs → AreBuckets (map f vs) → flat_map f (take k vs) ≡ take (capacity_of k) (flat_map f vs)
cells_take f vs k inside h =
    sym (take_at (flat_map f (take k vs)) (flat_map f (drop k vs)) (capacity_of k) (cells_before f vs k inside h))
    ∙ ap (take (capacity_of k)) (sym (flat_map-append f (take k vs) (drop k vs)) ∙ ap (flat_map f) (take-append-drop k vs))

-- an index whose cell is open is in a bucket that is open
pub bucket_open : {V T : Type 0} (f : V → List T) (vs : List V) (p : Place) → index_of p < length (flat_map f vs) → AreBuckets (map f vs) → p.bucket < length vs
bucket_open f vs p inside h =
    elim (cases_lt p.bucket (length vs)) [
      | inl below ↦ below
      | inr above ↦ let no_more = capacity_of_mono (length vs) p.bucket above in absurd (omega (arith, length-cells f vs h))
    ]

-- what is at a place is what its index has
pub cell_at : {V T : Type 0} (f : V → List T) (vs : List V) (p : Place) (e : V) (d : T) → p.bucket < length vs → IsCell p → AreBuckets (map f vs) → get_or (flat_map f vs) (index_of p) d ≡ get_or (f (get_or vs p.bucket e)) p.cell d
cell_at f vs p e d inside cell h =
    ap (λ n. get_or (flat_map f vs) (n + p.cell) d) (sym (cells_before f vs p.bucket (omega arith) h))
    ∙ get_or-flat_map f vs p.bucket p.cell e d inside (omega (arith, size_at f vs p.bucket e inside h))

-- what is put into one of the lists is put into them all, one after another
set_in_bucket : {V T : Type 0} (f : V → List T) (vs : List V) (k c : ℕ) (v e : V) (x : T) → k < length vs → c < length (f (get_or vs k e)) → f v ≡ set (f (get_or vs k e)) c x → flat_map f (set vs k v) ≡ set (flat_map f vs) (length (flat_map f (take k vs)) + c) x
set_in_bucket f [] k c v e x inside cell is = absurd (omega arith)
set_in_bucket f (w ∷ vs) zero c v e x inside cell is =
    let none : 0 + c ≡ c = omega arith in
    ap (λ b. b ++ flat_map f vs) is
    ∙ sym (set-append_left (f w) (flat_map f vs) c x cell)
    ∙ ap (λ i. set (f w ++ flat_map f vs) i x) (sym none)
set_in_bucket f (w ∷ vs) (suc k) c v e x inside cell is =
    let front = length-append (f w) (flat_map f (take k vs)) in
    let at : length (f w ++ flat_map f (take k vs)) + c - length (f w) ≡ length (flat_map f (take k vs)) + c = omega (arith, front) in
    ap (λ xs. f w ++ xs) (set_in_bucket f vs k c v e x (omega arith) cell is)
    ∙ ap (λ i. f w ++ set (flat_map f vs) i x) (sym at)
    ∙ sym (set-append_right (f w) (flat_map f vs) (length (f w)) (length (f w ++ flat_map f (take k vs)) + c) x refl (omega (arith, front)))

-- what is put at a place is put at its index
pub cells_set : {V T : Type 0} (f : V → List T) (vs : List V) (p : Place) (v e : V) (x : T) → p.bucket < length vs → IsCell p → f v ≡ set (f (get_or vs p.bucket e)) p.cell x → AreBuckets (map f vs) → flat_map f (set vs p.bucket v) ≡ set (flat_map f vs) (index_of p) x
cells_set f vs p v e x inside cell is h =
    set_in_bucket f vs p.bucket p.cell v e x inside (omega (arith, size_at f vs p.bucket e inside h)) is
    ∙ ap (λ n. set (flat_map f vs) (n + p.cell) x) (cells_before f vs p.bucket (omega arith) h)

-- neighbours in one bucket are neighbours in all cells
part_of_bucket : {V T : Type 0} (f : V → List T) (vs : List V) (k c n : ℕ) (e : V) → k < length vs → c + n ≤ length (f (get_or vs k e)) → take n (drop (length (flat_map f (take k vs)) + c) (flat_map f vs)) ≡ take n (drop c (f (get_or vs k e)))
part_of_bucket f [] k c n e inside within = absurd (omega arith)
part_of_bucket f (w ∷ vs) zero c n e inside within =
    let none : 0 + c ≡ c = omega arith in
    ap (λ i. take n (drop i (f w ++ flat_map f vs))) none
    ∙ ap (take n) (drop-append-le c (f w) (flat_map f vs) (omega arith))
    ∙ take-append-le n (drop c (f w)) (flat_map f vs) (omega (arith, length-drop c (f w)))
part_of_bucket f (w ∷ vs) (suc k) c n e inside within =
    let front : length (f w ++ flat_map f (take k vs)) + c ≡ length (f w) + (length (flat_map f (take k vs)) + c) = omega (arith, length-append (f w) (flat_map f (take k vs))) in
    ap (λ i. take n (drop i (f w ++ flat_map f vs))) front
    ∙ ap (take n) (sym (drop-drop (length (flat_map f (take k vs)) + c) (length (f w)) (f w ++ flat_map f vs)))
    ∙ ap (λ xs. take n (drop (length (flat_map f (take k vs)) + c) xs)) (drop_at (f w) (flat_map f vs) (length (f w)) refl)
    ∙ part_of_bucket f vs k c n e (omega arith) within

-- a block is inside its bucket
pub block_in_bucket : (block : ℕ) (p : Place) → IsCell p → index_of p ≡ 8 * block → p.cell + 8 ≤ cells_in p.bucket
block_in_bucket block p cell at = omega (arith, pow_pos p.bucket)

-- cells that are neighbours in a bucket are neighbours among all
part_at : {V T : Type 0} (f : V → List T) (vs : List V) (p : Place) (i n : ℕ) (e : V) → p.bucket < length vs → p.cell + n ≤ cells_in p.bucket → index_of p ≡ i → AreBuckets (map f vs) → take n (drop i (flat_map f vs)) ≡ take n (drop p.cell (f (get_or vs p.bucket e)))
part_at f vs p i n e inside within at h =
    ap (λ j. take n (drop j (flat_map f vs))) (sym at)
    ∙ ap (λ k. take n (drop (k + p.cell) (flat_map f vs))) (sym (cells_before f vs p.bucket (omega arith) h))
    ∙ part_of_bucket f vs p.bucket p.cell n e inside (omega (arith, size_at f vs p.bucket e inside h))

-- what is read at the place of an index is what the index has
pub read_at : {V T : Type 0} (f : V → List T) (vs : List V) (i : ℕ) (p : Place) (b : V) (x : T) → p.bucket < length vs → IsCell p → index_of p ≡ i → b ≡ get_or vs p.bucket b → x ≡ get_or (f b) p.cell x → AreBuckets (map f vs) → x ≡ get_or (flat_map f vs) i x
read_at f vs i p b x inside cell at bucket is h =
    is
    ∙ ap (λ v. get_or (f v) p.cell x) bucket
    ∙ sym (cell_at f vs p b x inside cell h)
    ∙ ap (λ n. get_or (flat_map f vs) n x) at

-- a bucket that is read has its size
pub size_of_read : {V T : Type 0} (f : V → List T) (vs : List V) (p : Place) (b : V) → p.bucket < length vs → b ≡ get_or vs p.bucket b → AreBuckets (map f vs) → length (f b) ≡ cells_in p.bucket
size_of_read f vs p b inside bucket h = ap (λ v. length (f v)) bucket ∙ size_at f vs p.bucket b inside h

-- neighbours that are read from the place of an index are those from the index on
pub part_read : {V T : Type 0} (f : V → List T) (vs : List V) (i n : ℕ) (p : Place) (b : V) → p.bucket < length vs → p.cell + n ≤ cells_in p.bucket → index_of p ≡ i → b ≡ get_or vs p.bucket b → AreBuckets (map f vs) → take n (drop p.cell (f b)) ≡ take n (drop i (flat_map f vs))
part_read f vs i n p b inside within at bucket h =
    ap (λ v. take n (drop p.cell (f v))) bucket ∙ sym (part_at f vs p i n b inside within at h)

-- some buckets, and the cells of them
abbrev pub elements_under : {T : Type 0} → ℕ → List T → Cells T
elements_under k xs = record { buckets = k; cells = xs }

-- with as many buckets and the same cells they are the same
pub same_cells : {T : Type 0} (j k : ℕ) (xs ys : List T) → j ≡ k → xs ≡ ys → elements_under j xs ≡ elements_under k ys
same_cells j k xs ys buckets cells = rw (buckets, cells) refl

-- what is put at the place of an index is put at the index
pub put_at : {V T : Type 0} (f : V → List T) (vs : List V) (i : ℕ) (p : Place) (b v : V) (x : T) → p.bucket < length vs → IsCell p → index_of p ≡ i → b ≡ get_or vs p.bucket b → f v ≡ set (f b) p.cell x → AreBuckets (map f vs) → flat_map f (set vs p.bucket v) ≡ set (flat_map f vs) i x
put_at f vs i p b v x inside cell at bucket is h =
    cells_set f vs p v b x inside cell (is ∙ ap (λ w. set (f w) p.cell x) bucket) h ∙ ap (λ n. set (flat_map f vs) n x) at

-- and the buckets stay such
pub AreBuckets-put : {V T : Type 0} (f : V → List T) (vs : List V) (p : Place) (b v : V) (x : T) → p.bucket < length vs → b ≡ get_or vs p.bucket b → f v ≡ set (f b) p.cell x → AreBuckets (map f vs) → AreBuckets (map f (set vs p.bucket v))
AreBuckets-put f vs p b v x inside bucket is h =
    AreBuckets-set f vs p.bucket v b inside (ap length is ∙ length-set (f b) p.cell x ∙ ap (λ w. length (f w)) bucket) h

-- a bucket more after some is one more of them
pub with_bucket_more : {T : Type 0} (c d : Cells T) (i : ℕ) (blank : T) → c.buckets ≤ i → d ≡ with_buckets c i blank → with_bucket d blank ≡ with_buckets c (i + 1) blank
with_bucket_more c d i blank from is =
    let most : max c.buckets i ≡ i = omega arith in
    let next : i + 1 ≡ max c.buckets (i + 1) = omega arith in
    let few = capacity_of_mono c.buckets i from in
    let more : capacity_of i - capacity_of c.buckets + cells_in i ≡ capacity_of (i + 1) - capacity_of c.buckets = omega (arith, capacity_of_next i) in
    ap (λ e. with_bucket e blank) is
    ∙ ap (λ n. elements_under (n + 1) (c.cells ++ replicate (capacity_of i - capacity_of c.buckets) blank ++ replicate (cells_in n) blank)) most
    ∙ same_cells _ _ _ _ next (append_assoc c.cells _ _ ∙ ap (λ xs. c.cells ++ xs) (replicate-append-replicate _ _ blank ∙ ap (λ n. replicate n blank) more))

-- how many buckets there are then
pub buckets_of_more : {T : Type 0} (c d : Cells T) (i : ℕ) (blank : T) → d ≡ with_buckets c i blank → d.buckets ≡ max c.buckets i
buckets_of_more c d i blank is = ap (λ e. e.buckets) is

-- as many buckets as there are is no more
pub with_buckets_same : {T : Type 0} (c : Cells T) (i : ℕ) (blank : T) → i ≤ c.buckets → c ≡ with_buckets c i blank
with_buckets_same c i blank within =
    let most : c.buckets ≡ max c.buckets i = omega arith in
    let none : capacity_of i - capacity_of c.buckets ≡ 0 = omega (arith, capacity_of_mono i c.buckets within) in
    same_cells _ _ _ _ most (sym (ap (λ n. c.cells ++ replicate n blank) none ∙ append-nil c.cells))

-- buckets that are opened and closed again leave the cells as they were
pub closed_again : {T : Type 0} (c d : Cells T) (before k : ℕ) (blank : T) → before ≡ c.buckets → length c.cells ≡ capacity_of c.buckets → d ≡ with_buckets c k blank → first_buckets d before ≡ c
closed_again c d before k blank here full is =
    let more = replicate (capacity_of k - capacity_of c.buckets) blank in
    ap (λ s. first_buckets s before) is
    ∙ ap (λ n. first_buckets (with_buckets c k blank) n) here
    ∙ ap (λ n. record c { cells = take n (c.cells ++ more) }) (sym full)
    ∙ ap (λ xs. record c { cells = xs }) (take-append_seam c.cells more)

-- more buckets were opened, as many as were wanted
pub as_many : {T : Type 0} (c d : Cells T) (i n : ℕ) (blank : T) → n ≤ i → c.buckets ≤ i → i ≤ max c.buckets n → d ≡ with_buckets c i blank → d ≡ with_buckets c n blank
as_many c d i n blank enough from few is =
    elim (cases_lt n c.buckets) [
      | inl more ↦ let none : i ≡ c.buckets = omega arith in is ∙ ap (λ k. with_buckets c k blank) none ∙ sym (with_buckets_same c c.buckets blank (omega arith)) ∙ with_buckets_same c n blank (omega arith)
      | inr fewer ↦ let all : i ≡ n = omega arith in is ∙ ap (λ k. with_buckets c k blank) all
    ]
