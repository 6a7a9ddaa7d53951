use Rattle.std.proofs.Common.{◌≡◌, Bool, true, false, inl, inr, ℕ, List, ap, subst, sym, arith}
use Rattle.hart_frame.specs.wire.FrameParts.{FrameParts, IsLongEnough}
use Rattle.hart_frame.specs.wire.Message.{IsMessage}
use Rattle.hart_c.specs.Faults.{IsFirstOf}
use Rattle.hart_c.specs.Messages.{IsFrame, IsInRange, encode_checks}
use Rattle.hart_c.specs.Numbers.{address_of, frame_in}
use Rattle.hart_c.specs.declared.fault.Fault.{Fault}
use Rattle.hart_c.specs.declared.frame.HartFrame.{HartFrame}
use Rattle.hart_c.proofs.laws.numbers_of_one_frame_are_written_alike.Goals as goal

-- if two structs of numbers have the same address, and the address of one is in range, so is the address of the other
in_range : (is_unique is_other : Bool) (frame other : HartFrame) → address_of is_other other ≡ address_of is_unique frame
    → IsInRange is_unique frame → IsInRange is_other other
in_range true true frame other same is = grind arith
in_range true false frame other same is = cc
in_range false true frame other same is = cc
in_range false false frame other same is = grind arith

-- if two frames are equal, and the payload of one is long enough, so is the payload of the other
is_long : (parts others : FrameParts) → others ≡ parts → IsLongEnough parts.kind parts.payload → IsLongEnough others.kind others.payload
is_long parts others same = let P : FrameParts → Type 0 = λ these. IsLongEnough these.kind these.payload in subst P (sym same)

-- equal frames have the same message
is_message : (parts others : FrameParts) (preambles : ℕ) → others ≡ parts → {message : List ℕ} → IsMessage parts preambles message
    → IsMessage others preambles message
is_message parts others preambles same {message} =
    let P : FrameParts → Type 0 = λ these. IsMessage these preambles message in subst P (sym same)

-- the lemmas for two structs of numbers that show the same frame
module _ (frame other : HartFrame) (same : frame_in other ≡ frame_in frame) (long : other.expansion_len ≡ frame.expansion_len) where
  address : address_of other.is_unique other ≡ address_of frame.is_unique frame
  address = ap (λ (parts : FrameParts). parts.address) same

  forth : IsInRange frame.is_unique frame → IsInRange other.is_unique other
  forth = in_range frame.is_unique other.is_unique frame other address

  back : IsInRange other.is_unique other → IsInRange frame.is_unique frame
  back = in_range other.is_unique frame.is_unique other frame (sym address)

  is_frame : IsFrame frame → IsFrame other
  is_frame (is, (few, (enough, end))) = (forth is, (rw long few, (is_long (frame_in frame) (frame_in other) same enough, tt)))

  -- two structs of the same frame are refused with the same fault
  refused : (preambles room : ℕ) (fault : Fault) → IsFirstOf (encode_checks frame preambles room) fault
      → IsFirstOf (encode_checks other preambles room) fault
  refused preambles room fault (inl why) = inl (λ is. why.0 (back is), why.1)
  refused preambles room fault (inr (is, inl why)) = inr (forth is, inl (rw long why.0, why.1))
  refused preambles room fault (inr (is, inr (few, inl why))) =
      inr (forth is, inr (rw long few, inl (λ enough. why.0 (is_long (frame_in other) (frame_in frame) (sym same) enough), why.1)))
  refused preambles room fault (inr (is, inr (few, inr (enough, inl why)))) =
      inr (forth is, inr (rw long few, inr (is_long (frame_in frame) (frame_in other) same enough, inl why)))
  refused preambles room fault (inr (is, inr (few, inr (enough, inr (counts, inl ((message, is_its, none), told)))))) =
      inr (
        forth is,
        inr (
          rw long few,
          inr (
            is_long (frame_in frame) (frame_in other) same enough,
            inr (counts, inl ((message, is_message (frame_in frame) (frame_in other) preambles same is_its, none), told)),
          ),
        ),
      )
  refused preambles room fault (inr (is, inr (few, inr (enough, inr (counts, inr (fits, none)))))) = absurd none

pub returns : goal.returns
returns c frame other preambles before after outcome same long told = elim told [
  | inl is ↦ inl (
    is.0,
    (
      is_frame frame other same long is.1.0,
      is.1.1,
      (is.1.2.0, is_message (frame_in frame) (frame_in other) preambles same is.1.2.1, is.1.2.2, is.1.2.3, is.1.2.4),
    ),
    is.2,
  )
  | inr why ↦ inr (why.0, refused frame other same long preambles _ why.0 why.1, why.2, why.3)
]
