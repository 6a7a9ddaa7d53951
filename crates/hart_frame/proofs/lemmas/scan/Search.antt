-- What is known of bytes while they are searched, and what a search then finds.
use Rattle.hart_frame.proofs.Common.{Some, None, ◌≡◌, ◌≢◌, ℕ, zero, suc, ◌+◌, ◌-◌, ◌<◌, ◌≤◌, ◌⊎◌, inl, inr, List, [], ◌∷◌, ◌++◌, length, ap}
use Rattle.hart_frame.proofs.Common.{take, drop, get_or, refl, ◌∙◌, replicate, MatchOption, Option, arith, append_assoc, length-append}
use Rattle.hart_frame.proofs.Common.{length-drop, add-zero, take-append-add, common_steps, drop-append-le, drop_more, get_or-drop}
use Rattle.hart_frame.proofs.Common.{length-take-le, Layout, IsWhole, MayBegin, HasNoPair, HasPair, IsSearched}
use Rattle.hart_frame.proofs.Common.{layout_length, Bool, IsTrue, take-length, take-append-drop, SearchResult, drop-drop, sym}
use Rattle.std.proofs.Common.{max}
use Rattle.std.proofs.lemmas.Bool.{cases_eq}
use Rattle.hart_frame.proofs.lemmas.wire.Lane.{drop_take, take_more}
use Rattle.hart_frame.specs.declared.scan.candidate.Candidate.TheVariants.{Never, Whole}
use Rattle.hart_frame.specs.declared.wire.prefix.Wrong.TheVariants.{BadDelimiter}
use Rattle.hart_frame.specs.private.Candidate.{IsCandidate, MayBeginBefore, NeverBegin}
use Rattle.hart_frame.specs.private.Search.{IsNextPair, IsOpenBefore, IsSearching, NoneBegin, NoneBeginThen}
use Rattle.hart_frame.proofs.lemmas.scan.Candidate.{may_begin_before, never_after, never_first, never_more, second_never, nothing_open}
use Rattle.hart_frame.proofs.lemmas.wire.Truncated.{truncated_check, truncated_count}

-- A prefix of two joined lists that covers the first list is that list and then a prefix of the second.
pub take_both : (xs ys : List ℕ) (n : ℕ) → length xs ≤ n → take n (xs ++ ys) ≡ xs ++ take (n - length xs) ys
take_both xs ys n long = grind (arith, take-append-add xs ys (n - length xs))

-- If no frame begins from `from` up to `to` in the first `n` bytes of a list, none begins there in a longer prefix.
pub none_more : (xs : List ℕ) (n m from to : ℕ) → to ≤ n → n ≤ m → m ≤ length xs → NoneBegin (take n xs) from to
    → NoneBegin (take m xs) from to
none_more xs n m from to within order long none place after before =
    let inside : place ≤ length (take n xs) = omega (arith, before, within, order, long, length-take-le n xs) in
    rw (take_more xs n m order, drop-append-le) (never_more _ _ (none place after before))

-- What is true of each place before `mid`, and of each place from `mid` on, is true of all these places.
pub joined : (Of : ℕ → Type 0) (from mid to : ℕ) → ((place : ℕ) → from ≤ place → place < mid → Of place)
    → ((place : ℕ) → mid ≤ place → place < to → Of place) → (place : ℕ) → from ≤ place → place < to → Of place
joined Of from mid to before after place since below = grind arith

-- A place is passed if it has a byte other than FF, or if such a byte stands after it, or if three FF stand there.
abbrev pub IsPassed : List ℕ → ℕ → Type 0
IsPassed xs here =
    (get_or xs here 0 ≢ 255) ⊎ ((here + 2 ≤ length xs) × (get_or xs (here + 1) 0 ≢ 255))
    ⊎ ((here + 3 ≤ length xs) × (get_or xs here 0 ≡ 255) × (get_or xs (here + 1) 0 ≡ 255) × (get_or xs (here + 2) 0 ≡ 255))

-- At a passed place no frame begins, and 1 to 3 bytes prove this.
passed_never : (xs : List ℕ) (here : ℕ) → here < length xs → IsPassed xs here
    → (count : ℕ) × IsCandidate (drop here xs) (Never count) × (0 < count) × (count ≤ 3)
passed_never xs here within (inl other) = (1, grind (arith, drop_more xs here 0, never_first), omega arith, omega arith)
passed_never xs here within (inr (inl (inside, other))) =
    elim (cases_eq (get_or xs here 0) 255) [
      | inl first ↦
          let at : get_or (drop here xs) 0 0 ≡ 255 = grind (arith, get_or-drop) in
          let next : get_or (drop here xs) 1 0 ≢ 255 = grind (arith, get_or-drop) in
          (2, second_never (drop here xs) (omega (arith, length-drop here xs)) at next, omega arith, omega arith)
      | inr differs ↦ (1, grind (arith, drop_more xs here 0, never_first), omega arith, omega arith)
    ]
passed_never xs here within (inr (inr (inside, first, second, third))) =
    let parts : drop here xs ≡ 255 ∷ 255 ∷ 255 ∷ drop (here + 3) xs = grind (arith, drop_more) in
    let never = never_after 255 255 (255 ∷ []) (BadDelimiter 255) (grind arith) in (
      3,
      rw parts (omega arith, never, may_begin_before 1 (255 ∷ drop (here + 3) xs) (grind arith)),
      omega arith,
      omega arith,
    )

-- A place with three bytes and no pair is passed.
pub passed_here : (xs : List ℕ) (here : ℕ) → here + 3 ≤ length xs → (HasPair xs here → ⊥) → IsPassed xs here
passed_here xs here inside none = grind arith

-- If no pair stands from a place on, all places before the last FF are passed. At most two FF at the end count as last.
pub passed_to_end : (xs : List ℕ) (place count : ℕ) → place ≤ length xs → HasNoPair xs place (length xs)
    → (count < 2 → count < length (drop place xs) → get_or (drop place xs) (length (drop place xs) - count - 1) 0 ≢ 255)
    → (here : ℕ) → place ≤ here → here < length xs - count → IsPassed xs here
passed_to_end xs place count within none other here after before =
    let at : (k : ℕ) → get_or (drop place xs) k 0 ≡ get_or xs (place + k) 0 = λ k. get_or-drop place xs k 0 in
    grind (arith, length-drop place xs, passed_here xs here, none here)

-- One or two FF and nothing else, or no bytes, may begin a frame.
pub may_begin_last : (xs : List ℕ) (count : ℕ) → count ≤ 2 → xs ≡ replicate count 255 → MayBegin xs
may_begin_last xs count few is = let cases : (count ≡ 0) ⊎ (count ≡ 1) ⊎ (count ≡ 2) = grind arith in grind arith

-- If no pair stands at some places, the next pair after them is the next pair from the first of them on.
pub pair_after : (xs : List ℕ) (from place : ℕ) (result : Option ℕ) → from ≤ place → HasNoPair xs from place
    → MatchOption result (HasNoPair xs place (length xs)) (IsNextPair xs place)
    → MatchOption result (HasNoPair xs from (length xs)) (IsNextPair xs from)
pair_after xs from place result order none rest = grind (arith, none, rest)

-- The same holds near the end, where sixteen places are looked at together, even if the search has passed some of them.
pub pair_at_end : (xs : List ℕ) (from place last : ℕ) (result : Option ℕ) → from ≤ last → last ≤ place → last + 18 ≡ length xs
    → HasNoPair xs from place → MatchOption result (HasNoPair xs last (last + 16)) (IsNextPair xs last)
    → MatchOption result (HasNoPair xs from (length xs)) (IsNextPair xs from)
pair_at_end xs from place last result order seen all none rest = grind (arith, none, rest)

-- If bytes may begin a frame, so may each prefix of them.
may_take : (xs : List ℕ) (n : ℕ) → n ≤ length xs → MayBegin xs → MayBegin (take n xs)
may_take xs zero within may = grind arith
may_take xs (suc zero) within may = grind arith
may_take xs (suc (suc n)) within may = grind (arith, length-take-le, truncated_count, truncated_check)

-- If bytes begin with a frame, so does each prefix of them that is long enough for the frame.
whole_take : (layout : Layout) (xs : List ℕ) (n : ℕ) → (whole : IsWhole layout xs) → 2 + layout_length layout ≤ n → n ≤ length xs
    → IsWhole layout (take n xs)
whole_take layout xs n whole long within = grind (arith, take_both (255 ∷ 255 ∷ whole.body) whole.rest n)

-- One list is searched from `from` on, and only prefixes of at least `seen` bytes are judged.
module _ (xs : List ℕ) (from seen : ℕ) where
  -- A search also looks at `count` bytes from its place on if each shorter prefix of these may begin a frame.
  searching_more : (place decided count more : ℕ) → IsSearching xs from seen place decided → MayBeginBefore count (drop place xs)
      → count ≤ 269 → place + count ≤ length xs → more ≡ max decided (place + count) → IsSearching xs from seen place more
  searching_more place decided count more searching may few within is =
      let none : (n : ℕ) → decided ≤ n → n ≤ more → NoneBegin (take n xs) from place = λ n late early.
      none_more xs decided n from place searching.order late (omega arith) searching.none in
      let before : IsOpenBefore xs from seen more = joined _ seen decided more searching.before (λ n late early. record {
        place = place;
        after = searching.after;
        within = omega (arith, length-take-le n xs);
        none = none n late (omega arith);
        may = rw (drop_take xs place n (omega arith)) (may (n - place) (omega arith));
      }) in
      let stays = none more (omega arith) (omega arith) in grind arith

  -- If `count` bytes prove that no frame begins at the place of a search, the search goes on right after that place.
  searching_never : (place decided count more : ℕ) → IsSearching xs from seen place decided → IsCandidate (drop place xs) (Never count)
      → 0 < count → count ≤ 269 → more ≡ max decided (place + count) → IsSearching xs from seen (place + 1) more
  searching_never place decided count more searching never some few is =
      let on = searching_more place decided count more searching never.2 few (omega (arith, length-drop place xs)) is in
      let here : NeverBegin (drop place (take more xs)) =
      rw (drop_take xs place more (omega arith), take_more (drop place xs) count (more - place) (omega arith))
      (never_more (take count (drop place xs)) _ never.1) in
      let none : NoneBegin (take more xs) from (place + 1) = joined _ from place (place + 1) on.none
      (λ k late early. let same : k ≡ place = omega arith in rw same here) in
      grind arith

  -- A search begins at its first place, and looks at the bytes that are known to decide nothing.
  pub searching_first : from ≤ seen → seen ≤ length xs → seen ≤ from + 269 → IsSearching xs from seen from seen
  searching_first order within few = record {
    after = omega arith;
    order = order;
    late = omega arith;
    within = within;
    few = few;
    none = λ place late early. absurd (omega (arith, late, early));
    before = λ fewer late early. absurd (omega (arith, late, early));
  }

  -- A search moves past places that are passed, and looks at no more than 2 bytes after them.
  searching_run : (place decided count start : ℕ) → start ≡ place + count → IsSearching xs from seen place decided → start ≤ length xs
      → ((here : ℕ) → place ≤ here → here < start → IsPassed xs here)
      → (needed : ℕ) × IsSearching xs from seen start needed × (decided ≤ needed) × (needed ≤ max decided (start + 2))
  searching_run place decided zero start is searching within passed = (decided, grind (arith, add-zero), omega arith, omega arith)
  searching_run place decided (suc count) start is searching within passed =
      let here = place + count in
      let (needed, on, least, most) = searching_run place decided count here refl searching (omega arith)
      (λ k since below. passed k since (omega arith)) in
      let (size, never, some, few) = passed_never xs here (omega arith) (passed here (omega arith) (omega arith)) in
      let more = max needed (here + size) in
      let next : start ≡ here + 1 = omega arith in
      (more, rw (← next) at (searching_never here needed size more on never some (omega arith) refl), omega arith, omega arith)

  pub passed_before : (place start : ℕ) → IsNextPair xs place start → (here : ℕ) → place ≤ here → here < start → IsPassed xs here
  passed_before place start next here after before = grind (arith, passed_here)

  -- A search goes on after the next pair if no frame begins there.
  pub searching_on : (place decided start count more : ℕ) → IsSearching xs from seen place decided → IsNextPair xs place start
      → IsCandidate (drop start xs) (Never count) → (2 ≤ count) × (count ≤ 269)
      → more ≡ max decided (start + count) → IsSearching xs from seen (start + 1) more
  searching_on place decided start count more searching next never (some, few) is =
      let (needed, on, least, most) = searching_run place decided (start - place) start (omega (arith, next.after)) searching
      (omega (arith, next.pair)) (passed_before place start next) in
      searching_never start needed count more on never (omega (arith, some)) few
      (omega (arith, is, least, most, some))

  -- A search ends at a place if the bytes that are left from there on may begin a frame. No bytes need be left.
  pub searched_open : (place decided start : ℕ) → IsSearching xs from seen place decided → place ≤ start → start ≤ length xs
      → ((here : ℕ) → place ≤ here → here < start → IsPassed xs here)
      → MayBegin (drop start xs) → length xs < start + 269
      → IsSearched xs from seen (record { place = start; decided = length xs; layout = None })
  searched_open place decided start searching after within passed may few =
      let (needed, on, least, most) = searching_run place decided (start - place) start (omega arith) searching within passed in
      let stays = searching_more start needed (length xs - start) (length xs) on
      (λ n below. may_take (drop start xs) n (omega (arith, length-drop start xs)) may) (omega arith) (omega arith)
      (omega (arith, on.within)) in
      grind arith

  -- If no pair stands from the place of a search on, the search ends before the last FF. At most two FF at the end count as last.
  pub searched_no_pair : (place decided count : ℕ) → IsSearching xs from seen place decided → HasNoPair xs place (length xs) → count ≤ 2
      → count ≤ length (drop place xs) → drop (length (drop place xs) - count) (drop place xs) ≡ replicate count 255
      → (count < 2 → count < length (drop place xs) → get_or (drop place xs) (length (drop place xs) - count - 1) 0 ≢ 255)
      → IsSearched xs from seen (record { place = length xs - count; decided = length xs; layout = None })
  searched_no_pair place decided count searching none few within last other =
      let inside : place ≤ length xs = omega (arith, searching.order, searching.within) in
      let rest = length-drop place xs in
      let same : place + (length (drop place xs) - count) ≡ length xs - count = omega (arith, inside, rest, within) in
      let ends : drop (length xs - count) xs ≡ replicate count 255 =
      ap (λ (k : ℕ). drop k xs) (sym same) ∙ sym (drop-drop (length (drop place xs) - count) place xs) ∙ last in
      searched_open place decided (length xs - count) searching (omega (arith, within, rest, inside)) (omega arith)
      (passed_to_end xs place count inside none other) (may_begin_last (drop (length xs - count) xs) count few ends) (omega (arith, few))

  -- A search ends at a place where a frame stands.
  pub searched_stands : (place decided start more : ℕ) (layout : Layout) → IsSearching xs from seen place decided
      → IsNextPair xs place start → IsCandidate (drop start xs) (Whole layout) → layout_length layout ≤ 267
      → more ≡ max decided (start + 2 + layout_length layout)
      → IsSearched xs from seen (record { place = start; decided = more; layout = Some layout })
  searched_stands place decided start more layout searching next candidate short is =
      let n = layout_length layout in
      let (needed, on, least, most) = searching_run place decided (start - place) start (omega (arith, next.after)) searching
      (omega (arith, next.pair)) (passed_before place start next) in
      let (whole, may) = candidate in
      let long : start + (2 + n) ≤ length xs =
      omega (arith, simp length-append at (ap length whole.parts), whole.whole.exact, length-drop start xs, next.pair) in
      let stays = searching_more start needed (2 + n) more on may (omega arith) long (omega (arith, is, least, most)) in
      grind (arith, common_steps, drop_take, whole_take, length-drop)

-- No frame begins in a list from `first` up to the found place. At the found place a frame stands or may begin.
pub record IsLookedAt (bytes : List ℕ) (first : ℕ) (ended : Bool) (found : SearchResult) : Type 0 where
  pub after : first ≤ found.place
  pub within : found.place ≤ length bytes
  pub none : NoneBeginThen bytes ended first found.place
  pub stands : MatchOption found.layout ((length bytes < found.place + 269) × MayBegin (drop found.place bytes))
      (λ layout. IsWhole layout (drop found.place bytes))

-- A search from `from` on finds a place that is `IsLookedAt` from `first` on, if no frame begins from `first` up to `from`.
pub looked_from : (bytes : List ℕ) (first from : ℕ) (ended : Bool) (found : SearchResult) → first ≤ from
    → NoneBeginThen bytes ended first from → IsSearched bytes from from found → IsLookedAt bytes first ended found
looked_from bytes first from ended found after before is =
    let all = rw (take-length bytes) at
    (none_more bytes found.decided (length bytes) from found.place is.order is.within (omega arith) is.none) in
    let none : NoneBeginThen bytes ended first found.place =
    joined _ first from found.place before (λ place late below next closed. all place late below next) in
    grind (arith, common_steps, drop-append-le, append_assoc, take-append-drop found.decided bytes, length-take-le found.decided bytes)

-- If nothing can follow, no frame begins where one might have begun, and the search goes on after that place.
pub looked_on : (bytes : List ℕ) (first : ℕ) (ended : Bool) (old new : SearchResult) → IsTrue ended → IsLookedAt bytes first ended old
    → old.layout ≡ None → IsSearched bytes (old.place + 1) (old.place + 1) new → IsLookedAt bytes first ended new
looked_on bytes first ended old new over looked none searched =
    let may : MayBegin (drop old.place bytes) = grind (arith, common_steps) in
    looked_from bytes first (old.place + 1) ended new (omega (arith, looked.after))
    (joined _ first old.place (old.place + 1) looked.none (λ here late early next closed.
    let same : here ≡ old.place = omega (arith, late, early) in
    rw same (nothing_open (drop old.place bytes) next may (closed over)))) searched
