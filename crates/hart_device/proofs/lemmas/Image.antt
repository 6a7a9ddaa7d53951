-- What an image says of a state. An image has no fault, and it determines the state except for the identity and the cold start
-- bits.
use Rattle.std.proofs.Common.{◌≡◌, ◌≢◌, suc, ℕ, ◌-◌, ◌^◌, ◌<◌, ◌≤◌, ◌⊎◌, inl, inr, refl, sym, ◌∙◌, subst, arith, Bool, true, Some, List, []}
use Rattle.std.proofs.Common.{◌∷◌, ◌++◌, drop, length, slice_index, Option, IfSome, IfNone, IfOk, IfErr}
use Rattle.std.proofs.lemmas.Bool.Decides.{nat_tests}
use Rattle.std.proofs.lemmas.Grind.{common_steps, elements}
use Rattle.std.proofs.lemmas.List.{append_cancel_left, take-append-le}
use Rattle.std.proofs.lemmas.Slice.{between_is}
use Rattle.std.specs.List.{Contains, flat_map, sum_by}
use Rattle.std.specs.Option.{ok_or}
use Rattle.hart_values.specs.declared.each_master.EachMaster.{EachMaster}
use Rattle.hart_values.proofs.lemmas.Laws.{packed_text_and_bytes_determine_each_other-one_text}
use Rattle.hart_commands.specs.Registers.{AreValid, Contents, bytes_in, registers, size_of}
use Rattle.hart_commands.specs.declared.register.Register.{Register}
use Rattle.hart_commands.specs.declared.register.Register.TheVariants.{Tag, LongTag}
use Rattle.hart_commands.proofs.lemmas.Laws.{all_registers_are_listed_once-every}
use Rattle.hart_device.specs.Device.{DeviceState}
use Rattle.hart_device.specs.Identity.{two_bytes}
use Rattle.hart_device.specs.declared.fault.DeviceFault.{DeviceFault}
use Rattle.hart_device.specs.declared.fault.DeviceFault.TheVariants.{BadField, BadLength, BadVersion}
use Rattle.hart_device.specs.declared.identity_parts.IdentityParts.{IdentityParts}
use Rattle.hart_device.specs.declared.image.ImageParts.{ImageParts}
use Rattle.hart_device.specs.Image.{IsImageOf, IsImageFault, IsLongTagOf, flags_of, image_ending, image_of, registers_of_version}
use Rattle.hart_device.specs.Image.{registers_of_version_1, state_with}
use Rattle.hart_device.specs.Registers.{HoldsInvalid, contents_in, end_of, standing_for, values_of}
use Rattle.hart_device.proofs.lemmas.Registers.{end_to_end, filled, length_written, written, bytes_in-contents_by, same_contents}

-- To prove a property of the list of registers of every known version, it is enough to prove it of the list of version 1 and of the list of
-- all registers.
by_version : (P : List Register → Type 0) → P registers_of_version_1 → P registers → (version : ℕ) (listed : List Register)
    → registers_of_version version ≡ Some listed → P listed
by_version P first second version listed known = grind (arith, nat_tests)

ends_of : (version : ℕ) (listed : List Register) → registers_of_version version ≡ Some listed → end_to_end 0 listed ≡ true
ends_of = by_version (λ listed. end_to_end 0 listed ≡ true) refl refl

-- The long tag is not among the registers of version 1, and every other register is.
pub no_long_tag : (register : Register) → Contains registers_of_version_1 register → register ≢ LongTag
no_long_tag register there e = grind (arith, elements, there.1, there.2)

pub in_version_1 : (register : Register) → register ≢ LongTag → Contains registers_of_version_1 register
in_version_1 register differs =
    let there = all_registers_are_listed_once-every register in
    (there.0, grind (arith, elements, there.1, there.2), grind (arith, elements, there.1, there.2))

-- Each register is in the list, or it is the long tag and the tag is in the list.
abbrev pub HasOrNot : List Register → Type 0
HasOrNot listed =
    (register : Register) → Contains listed register ⊎ ((register ≡ LongTag) × (Contains listed LongTag → ⊥) × Contains listed Tag)

listed_or_not : (version : ℕ) (listed : List Register) → registers_of_version version ≡ Some listed → HasOrNot listed
listed_or_not = by_version HasOrNot in_first (λ register. inl (all_registers_are_listed_once-every register))
  where
    in_first : HasOrNot registers_of_version_1
    in_first LongTag = inr (refl, λ has. no_long_tag LongTag has refl, in_version_1 Tag (λ e. cc))
    in_first r = inl (in_version_1 r (λ e. cc))

-- A state has at most one image of each version.
pub one_image : (state : DeviceState) (image other : List ℕ) (is : IsImageOf state image) (other_is : IsImageOf state other)
    → is.version ≡ other_is.version → image ≡ other
one_image state image other is other_is same = cc

-- The image that a device writes is an image of its state.
pub written_is : (state : DeviceState) → AreValid state.contents → state.counter < 2 ^ 16 → IsImageOf state (image_of state)
written_is state valid counter = record {
  contents = valid;
  counter = counter;
  version = 2;
  listed = registers;
  known = refl;
  long_tag = λ not_listed. absurd (not_listed (7, omega arith, refl));
  written = refl;
}

-- An image of a state is also an image of the same state with other cold start bits.
pub devices_are_kept_whole-any_cold_start : (state : DeviceState) (image : List ℕ) (cold_start : EachMaster Bool) → IsImageOf state image
    → IsImageOf (record state { cold_start = cold_start }) image
devices_are_kept_whole-any_cold_start state image cold_start is = grind (arith, common_steps, written)

-- The bytes that stand for a register in an image are the bytes that the register holds.
held_in_image : (state : DeviceState) (image : List ℕ) (is : IsImageOf state image) (register : Register) → Contains is.listed register
    → standing_for register (drop 1 image) ≡ bytes_in state.contents register
held_in_image state image is register there =
    rw is.written (rw there.2 at (written (bytes_in state.contents) [] (image_ending state) is.listed
    (ends_of is.version is.listed is.known) (λ r. (is.contents r).0) there.0 register there.1))

-- Two functions that agree on every register of a list give the same bytes for the whole list.
same_bytes : (f g : Register → List ℕ) (listed : List Register)
    → ((register : Register) → Contains listed register → f register ≡ g register) → flat_map f listed ≡ flat_map g listed
same_bytes f g [] same = refl
same_bytes f g (register ∷ later) same =
    let rest = same_bytes f g later (λ r there. same r (suc there.0, omega (arith, there.1), there.2)) in
    grind (arith, same register (0, omega arith, refl), rest)

-- Bytes are an image of the state that was read from their registers (in an array) and from their last bytes.
pub read_is : (version : ℕ) (listed : List Register) → registers_of_version version ≡ Some listed
    → (parts : ImageParts) (array prefix end : List ℕ) → length prefix ≡ sum_by size_of listed
    → ((register : Register) → Contains listed register → standing_for register array ≡ standing_for register prefix)
    → ((Contains listed LongTag → ⊥) → IsLongTagOf (standing_for Tag array) (standing_for LongTag array))
    → values_of parts.values ≡ contents_in array → AreValid (values_of parts.values) × (parts.counter < 2 ^ 16)
    → two_bytes parts.counter ++ flags_of parts.flags.changed parts.flags.protected ∷ [] ≡ end
    → (identity : IdentityParts) → IsImageOf (state_with identity parts) (version ∷ (prefix ++ end))
read_is version listed known parts array prefix end long same long_tag contents valid ends identity =
    let fill = filled prefix 0 listed (ends_of version listed known) (omega (arith, long)) in
    let held : flat_map (bytes_in (contents_in array)) listed ≡ prefix =
    same_bytes (bytes_in (contents_in array)) (λ r. standing_for r prefix) listed
    (λ r there. bytes_in-contents_by (λ x. standing_for x array) r ∙ same r there) ∙ fill in
    record {
      contents = valid.0;
      counter = valid.1;
      version = version;
      listed = listed;
      known = known;
      long_tag = subst (λ (c : Contents). (Contains listed LongTag → ⊥) → IsLongTagOf c.tag c.long_tag) (sym contents) long_tag;
      written = rw (← ends, ← held, contents);
    }

-- The flags are the last byte of an image.
pub last_is : (version : ℕ) (prefix end : List ℕ) → length end ≡ 3
    → slice_index (version ∷ (prefix ++ end)) (length (version ∷ (prefix ++ end)) - 1) ≡ slice_index end 2
last_is version prefix end three =
    grind (arith, common_steps, elements)

-- If a register ends within a prefix, its bytes do not depend on the bytes after this prefix.
pub before_others : (register : Register) (prefix others : List ℕ) → end_of register ≤ length prefix
    → standing_for register (prefix ++ others) ≡ standing_for register prefix
before_others register prefix others fits = grind (arith, common_steps, between_is, take-append-le)

-- An image with an invalid register, or with flags that are too great, has a bad field.
pub bad_field : (version : ℕ) (listed : List Register) → registers_of_version version ≡ Some listed → (array prefix end : List ℕ)
    → length prefix ≡ sum_by size_of listed → length end ≡ 3
    → ((register : Register) → register ≢ LongTag → Contains listed register)
    → ((register : Register) → register ≢ LongTag → standing_for register (prefix ++ end) ≡ standing_for register array)
    → HoldsInvalid array ⊎ (7 < slice_index end 2) → IsImageFault (version ∷ (prefix ++ end)) BadField
bad_field version listed known array prefix end long three has whole bad =
    (listed, known, grind (arith, common_steps), grind (arith, has, whole, last_is))

-- If nothing was read, `ok_or` returns the right fault. If something was read, `ok_or` returns it with its properties.
pub refused_or : {A E Bad : Type 0} (P : E → Type 0) (read : Option A) (fault : E) → IfNone read Bad → (Bad → P fault)
    → IfErr (ok_or read fault) P
refused_or P read fault bad gives = grind (arith, gives)

pub kept_or : {A E : Type 0} (P Q R S : A → Type 0) (read : Option A) (fault : E) → IfSome read P → IfSome read Q → IfSome read R
    → ((x : A) → P x → Q x → R x → S x) → IfOk (ok_or read fault) S
kept_or P Q R S read fault p q r gives = grind (arith, gives)

-- An image of a state has no fault.
pub images_have_no_fault : (state : DeviceState) (image : List ℕ) (fault : DeviceFault) → IsImageOf state image
    → IsImageFault image fault → ⊥
images_have_no_fault state [] fault is faulty = let none = is.written in cc
images_have_no_fault state (version ∷ rest) BadVersion is faulty = let written = is.written in cc
images_have_no_fault state (version ∷ rest) BadLength is (listed, known, wrong) =
    let len = length_written (bytes_in state.contents) (λ r. (is.contents r).0) is.listed in grind (arith, common_steps)
images_have_no_fault state (version ∷ rest) BadField is (listed, known, len, inl (register, there, bad)) =
    let same : listed ≡ is.listed = cc in
    bad (rw (held_in_image state (version ∷ rest) is register (rw same at there)) (is.contents register))
images_have_no_fault state (version ∷ rest) BadField is (listed, known, len, inr above) =
    let last = last_is is.version (flat_map (bytes_in state.contents) is.listed) (image_ending state) refl in
    grind (arith, last, above, is.written)
images_have_no_fault state (version ∷ rest) _ is faulty = faulty

-- The bytes of an image have at most one fault.
pub one_fault : (image : List ℕ) (fault other : DeviceFault) → IsImageFault image fault → IsImageFault image other → fault ≡ other
one_fault image fault other p q = grind (arith, nat_tests)

-- Two states with the same image, identity and cold start bits are equal.
pub one_state : (state other : DeviceState) (image : List ℕ) → IsImageOf state image → IsImageOf other image
    → state.identity ≡ other.identity → state.cold_start ≡ other.cold_start → state ≡ other
one_state state other image is other_is identity cold_start =
    let version : is.version ≡ other_is.version = (let written = is.written in cc) in
    let listed : is.listed ≡ other_is.listed = cc in
    let held : (register : Register) → Contains is.listed register → bytes_in state.contents register ≡ bytes_in other.contents register =
    λ register there.
    sym (held_in_image state image is register there) ∙ held_in_image other image other_is register (rw listed at there) in
    let contents : state.contents ≡ other.contents = same_contents _ _ (λ register.
    grind (
      arith,
      packed_text_and_bytes_determine_each_other-one_text,
      listed_or_not is.version is.listed is.known register,
      is.long_tag,
      other_is.long_tag,
      held register,
      held Tag,
    )) in
    let ends : image_ending state ≡ image_ending other =
    append_cancel_left (flat_map (bytes_in other.contents) other_is.listed) _ _ (let a = is.written in let b = other_is.written in cc) in
    grind arith
