-- The registers after lists of overwrites. Registers that stand one after the other in an array, and are written into it.
use Rattle.std.proofs.Common.{◌≡◌, ℕ, ◌<◌, zero, suc, ap, arith, Option, unwrap_or, List, [], ◌∷◌, ◌++◌, length, ◌≢◌, ◌+◌, ◌-◌, ◌≤◌, ◌⊎◌}
use Rattle.std.proofs.Common.{nat_lt, if◌then◌else◌, refl, Bool, true, ◌==◌, ◌&&◌, take, drop, drop-drop, take-append-drop}
use Rattle.std.proofs.lemmas.Grind.{common_steps}
use Rattle.std.specs.List.{Contains, slice_index_or, slice_range, flat_map, sum_by}
use Rattle.std.specs.Option.{option_or}
use Rattle.hart_commands.specs.Registers.{Contents, Overwrite, bytes_in, contents_by, named_in, overwritten, last_named, registers_of}
use Rattle.hart_commands.specs.Registers.{registers, size_of}
use Rattle.hart_commands.specs.declared.register.Register.{Register}
use borrow.Rule.Slice.PartMut.{put_mid}
use Rattle.std.proofs.lemmas.Bool.Decides.{nat_tests}
use Rattle.std.proofs.lemmas.List.{get_or_default}
use Rattle.std.proofs.lemmas.Slice.{between_is, take-put_mid_below, drop-put_mid}
use Rattle.hart_commands.specs.declared.register.Register.TheVariants.{Polling}
use Rattle.hart_commands.proofs.lemmas.Laws.{all_registers_are_listed_once-every, all_registers_are_listed_once-once}
use Rattle.hart_device.specs.Registers.{contents_in, standing_for, end_of, start_of}

pub bytes_in-contents_by : (bytes : Register → List ℕ) (register : Register) → bytes_in (contents_by bytes) register ≡ bytes register
bytes_in-contents_by bytes register = grind arith

-- Contents are determined by the bytes of each register.
pub contents_determined : (contents : Contents) (bytes : Register → List ℕ)
    → ((register : Register) → bytes_in contents register ≡ bytes register) → contents ≡ contents_by bytes
contents_determined contents bytes same = ap contents_by (λ i register. same register i)

pub same_contents : (contents others : Contents)
    → ((register : Register) → bytes_in contents register ≡ bytes_in others register) → contents ≡ others
same_contents contents others = contents_determined contents (bytes_in others)

pub bytes_in-registers_of : (overwrites : List Overwrite) (initial : Contents) (register : Register)
    → bytes_in (registers_of overwrites initial) register ≡ unwrap_or (last_named overwrites register) (bytes_in initial register)
bytes_in-registers_of overwrites initial = grind (arith, common_steps, bytes_in-contents_by, unwrap_or)

pub unwrap_or-option_or : {A : Type 0} (a b : Option A) (d : A) → unwrap_or (option_or a b) d ≡ unwrap_or a (unwrap_or b d)
unwrap_or-option_or a b d = grind arith

-- An overwrite that is appended to a list is the last overwrite that names its registers.
pub last_named-append : (overwrites : List Overwrite) (overwrite : Overwrite) (register : Register)
    → last_named (overwrites ++ overwrite ∷ []) register ≡ option_or (named_in overwrite register) (last_named overwrites register)
last_named-append [] overwrite register = grind arith
last_named-append (o ∷ os) overwrite register = grind (arith, common_steps, last_named-append os overwrite register)

-- An overwrite that comes again later in the list changes nothing.
pub last_named-again : (later : List Overwrite) (overwrite : Overwrite) (register : Register) (k : ℕ)
    → k < length later → slice_index_or later k overwrite ≡ overwrite
    → option_or (last_named later register) (named_in overwrite register) ≡ last_named later register
last_named-again [] overwrite register k within there = absurd (omega arith)
last_named-again (o ∷ os) overwrite register zero within there = grind (arith, common_steps)
last_named-again (o ∷ os) overwrite register (suc k) within there =
    again_below (last_named os register) (named_in overwrite register) (named_in o register)
    (last_named-again os overwrite register k (omega arith) there)
  where
    again_below : {A : Type 0} (a b c : Option A) → option_or a b ≡ a → option_or (option_or a c) b ≡ option_or a c
    again_below a b c h = grind arith

pub registers_of_lists-first : (overwrite : Overwrite) (later : List Overwrite) (initial : Contents)
    → registers_of (overwrite ∷ later) initial ≡ registers_of later (overwritten overwrite initial)
registers_of_lists-first overwrite later initial =
    grind (arith, same_contents, bytes_in-registers_of, bytes_in-contents_by, unwrap_or-option_or)

pub registers_of_lists-last : (overwrites : List Overwrite) (overwrite : Overwrite) (initial : Contents)
    → registers_of (overwrites ++ overwrite ∷ []) initial ≡ overwritten overwrite (registers_of overwrites initial)
registers_of_lists-last overwrites overwrite initial =
    grind (arith, same_contents, last_named-append, bytes_in-registers_of, bytes_in-contents_by, unwrap_or-option_or)

pub registers_of_lists-again : (overwrite : Overwrite) (later : List Overwrite) (initial : Contents) → Contains later overwrite
    → registers_of (overwrite ∷ later) initial ≡ registers_of later initial
registers_of_lists-again overwrite later initial there = grind (arith, common_steps, same_contents, last_named-again, bytes_in-registers_of)

-- Writing in one range does not change any range that lies apart from it.
pub kept_apart : (array bytes : List ℕ) (start end other_start other_end : ℕ) → start ≤ end → end ≤ length array
    → length bytes ≡ end - start → other_start ≤ other_end → (end ≤ other_start) ⊎ (other_end ≤ start)
    → slice_range (put_mid start (end - start) array bytes) other_start other_end ≡ slice_range array other_start other_end
kept_apart array bytes start end from to order fits size other apart =
    grind (arith, common_steps, between_is, take-put_mid_below, drop-put_mid)

-- The register at a place of the list.
abbrev pub register_at : ℕ → Register
register_at place = slice_index_or registers place Polling

-- A register holds the bytes that it is given, if any, and otherwise the bytes that it held.
abbrev pub given_to : (Register → Option (List ℕ)) → List ℕ → Register → List ℕ
given_to given old register = unwrap_or (given register) (standing_for register old)

-- The registers before a place of the list have been written, and the other registers have not yet been written.
abbrev pub AreWrittenBefore : ℕ → (Register → Option (List ℕ)) → List ℕ → List ℕ → Type 0
AreWrittenBefore place given old now = (k : ℕ) → k < length registers
    → standing_for (register_at k) now
    ≡ (if nat_lt k place then given_to given old (register_at k) else standing_for (register_at k) old)

-- Once the register at `place` is written too, all registers before `place + 1` are written.
pub one_more : (given : Register → Option (List ℕ)) (old now new : List ℕ) (place : ℕ) → place < length registers
    → standing_for (register_at place) new ≡ given_to given old (register_at place)
    → ((other : Register) → other ≢ register_at place → standing_for other new ≡ standing_for other now)
    → AreWrittenBefore place given old now → AreWrittenBefore (place + 1) given old new
one_more given old now new place within written others before k k_within =
    let once = all_registers_are_listed_once-once in
    grind (arith, nat_tests, written, once k place Polling, once place k Polling, others (register_at k), before k k_within)

-- At the end of the list all registers are written.
pub all_written : (given : Register → Option (List ℕ)) (old now : List ℕ) (place : ℕ) → length registers ≤ place
    → AreWrittenBefore place given old now
    → (register : Register) → bytes_in (contents_in now) register ≡ unwrap_or (given register) (bytes_in (contents_in old) register)
all_written given old now place end before register =
    let there = all_registers_are_listed_once-every register in
    let at = λ (array : List ℕ). bytes_in-contents_by (λ r. standing_for r array) register in
    grind (arith, nat_tests, get_or_default, before there.0 there.1, there.2, at now, at old)

-- Whether the first register of a list starts at a place, and each other register starts where the register before it ends.
abbrev pub end_to_end : ℕ → List Register → Bool
end_to_end from [] = true
end_to_end from (register ∷ later) = (start_of register == from) && end_to_end (end_of register) later

-- If registers are end to end up to the end of the array, their bytes together are the array from the first register on.
pub filled : (array : List ℕ) (from : ℕ) (held : List Register) → end_to_end from held ≡ true
    → from + sum_by size_of held ≡ length array → flat_map (λ register. standing_for register array) held ≡ drop from array
filled array from [] ends spans = grind (arith, common_steps)
filled array from (register ∷ later) ends spans =
    grind (
      arith,
      common_steps,
      nat_tests,
      drop-drop,
      take-append-drop (size_of register) (drop from array),
      filled array (end_of register) later,
    )

-- If the bytes of each register are written one after the other, the range of each register holds its bytes.
pub written : (bytes : Register → List ℕ) (before after : List ℕ) (held : List Register) → end_to_end (length before) held ≡ true
    → ((register : Register) → length (bytes register) ≡ size_of register)
    → (k : ℕ) (d : Register) → k < length held
    → standing_for (slice_index_or held k d) (before ++ (flat_map bytes held ++ after)) ≡ bytes (slice_index_or held k d)
written bytes before after [] ends sizes k d within = absurd (omega arith)
written bytes before after (register ∷ later) ends sizes k d within =
    grind (arith, common_steps, nat_tests, sizes register, written bytes (before ++ bytes register) after later)

-- The first `place + 1` registers are the first `place` registers and the next one.
pub next_register : (place : ℕ) → place < length registers
    → take (place + 1) registers ≡ take place registers ++ slice_index_or registers place Polling ∷ []
next_register place within = grind (arith, common_steps)

-- The number of bytes written for all registers is the sum of the registers' sizes.
pub length_written : (bytes : Register → List ℕ) → ((register : Register) → length (bytes register) ≡ size_of register)
    → (held : List Register) → length (flat_map bytes held) ≡ sum_by size_of held
length_written bytes sizes [] = refl
length_written bytes sizes (register ∷ later) =
    grind (arith, common_steps, sizes register, length_written bytes sizes later)
