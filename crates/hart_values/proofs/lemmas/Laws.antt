-- The laws of addresses, of packed texts and of dates, for the proofs of this crate and of the crates above.
use Rattle.std.proofs.Common.{◌≡◌, ◌<◌, ◌/◌, ℕ, Bool, true, List, arith, rules}
use Rattle.std.proofs.lemmas.List.{ext_get_or}
use Rattle.hart_values.specs.address.AddressBytes.{IsAddressBytes}
use Rattle.hart_values.specs.declared.address.Address.{Address}
use Rattle.hart_values.specs.declared.master_id.MasterId.{MasterId}
use Rattle.hart_values.specs.hart_date.Calendar.{IsDateBytes, is_date}
use Rattle.hart_values.specs.declared.fault.ValueFault.{ValueFault}
use Rattle.hart_values.specs.packed_text.Packing.{IsFirstBadCharacter, IsPacked, IsTextFault}

-- Address bytes have only one reading: one master bit, one burst bit and one address.
pub address_bytes_are_unambiguous-one_reading : (m n : MasterId) (b c : Bool) (x y : Address) (bytes : List ℕ)
    → IsAddressBytes m b x bytes → IsAddressBytes n c y bytes → (m ≡ n) × (b ≡ c) × (x ≡ y)
address_bytes_are_unambiguous-one_reading m n b c x y bytes p q = grind arith

-- For each master bit and burst bit, an address has only one list of bytes.
pub address_bytes_are_unambiguous-one_list : (m : MasterId) (b : Bool) (x : Address) (bytes others : List ℕ)
    → IsAddressBytes m b x bytes → IsAddressBytes m b x others → bytes ≡ others
address_bytes_are_unambiguous-one_list m b x bytes others p q = grind arith

-- A text has only one packed form.
pub packed_text_and_bytes_determine_each_other-one_list : (text bytes others : List ℕ)
    → IsPacked text bytes → IsPacked text others → bytes ≡ others
packed_text_and_bytes_determine_each_other-one_list text bytes others p q =
    ext_get_or 0 bytes others (omega (arith, p.lengths, q.lengths))
    (λ i h. grind (arith, p.groups (i / 3), q.groups (i / 3), p.lengths, p.bytes_fit, q.bytes_fit))

-- Bytes are the packed form of only one text.
pub packed_text_and_bytes_determine_each_other-one_text : (text others bytes : List ℕ)
    → IsPacked text bytes → IsPacked others bytes → text ≡ others
packed_text_and_bytes_determine_each_other-one_text text others bytes p q =
    ext_get_or 0 text others (omega (arith, p.lengths, q.lengths))
    (λ i h. grind (arith, p.groups (i / 4), q.groups (i / 4), p.lengths, q.lengths, p.characters, q.characters))

-- A text has at most one place of a first bad character.
one_first_bad : (text : List ℕ) (place other : ℕ) → IsFirstBadCharacter text place → IsFirstBadCharacter text other → place ≡ other
one_first_bad text place other a b =
    let later = λ (below : place < other). a.bad (b.least place below) in
    let sooner = λ (below : other < place). b.bad (a.least other below) in grind (arith, later, sooner)

-- A text is refused with at most one fault.
pub texts_have_one_fault : (characters : ℕ) (text : List ℕ) (fault other : ValueFault)
    → IsTextFault characters text fault → IsTextFault characters text other → fault ≡ other
texts_have_one_fault characters text fault other a b = grind (arith, one_first_bad text)

pub dates_are_decided-date : (bytes : List ℕ) → ((is_date bytes ≡ true) → IsDateBytes bytes) × (IsDateBytes bytes → (is_date bytes ≡ true))
dates_are_decided-date bytes = search rules

-- Attributes in code cannot name lemmas with a dash in their names, so they name these rule sets.
pub ruleset address_bytes_are_unambiguous = (address_bytes_are_unambiguous-one_reading, address_bytes_are_unambiguous-one_list)

pub ruleset packed_text_and_bytes_determine_each_other =
    (packed_text_and_bytes_determine_each_other-one_list, packed_text_and_bytes_determine_each_other-one_text)
