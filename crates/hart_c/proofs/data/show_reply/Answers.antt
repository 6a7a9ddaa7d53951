use Rattle.std.proofs.Common.{◌≡◌, ◌≢◌, ◌-◌, ℕ, List, [], ◌∷◌, arith, drop, length, refl, take}
use Rattle.std.proofs.lemmas.Grind.{common_steps}
use Rattle.std.proofs.lemmas.List.{length-take}
use Rattle.hart_commands.specs.{Commands.reply_rows, Fields.Field, Fields.field_bytes, Fields.fields_of, Parts.content_bytes}
use Rattle.hart_commands.proofs.lemmas.Reply.{kept}
use Rattle.hart_c.proofs.data.show_reply.Goals.{then-eq, else-eq}
use Rattle.hart_c.proofs.data.show_reply.Goals as goal

-- without bytes there are no fields
no_fields : (fields : List Field) → field_bytes fields ≡ [] → fields ≡ []
no_fields [] none = refl
no_fields (field ∷ fields) none = cc

pub slice_bounds-taken-end : goal.slice_bounds-taken-end
slice_bounds-taken-end c =
    grind (arith, common_steps, length-take, (kept c.args.command c.args.payload.now c.args.reply.now c.requires).written)

-- the bytes of a reply's content are the taken bytes from place 2 on
content_taken : (payload content : List ℕ) (code status n : ℕ) → code ∷ status ∷ content ≡ take (length (code ∷ status ∷ content)) payload
    → n ≡ length (code ∷ status ∷ content) → take (n - 2) (drop 2 payload) ≡ content
content_taken (first ∷ second ∷ bytes) content code status n written long = grind arith
content_taken (first ∷ []) content code status n written long = cc
content_taken [] content code status n written long = cc

pub returns : goal.returns
returns c =
    let kept = kept c.args.command c.args.payload.now c.args.reply.now c.requires in
    let none : c.args.reply.now.code ≢ 0 → fields_of (reply_rows c.args.command) (content_bytes c.args.reply.now.content) ≡ [] =
    λ other. no_fields _ (grind (arith, kept.parted, kept.refused other)) in
    elim c.if-eq.branch [
      | then-eq w ↦
          let taken = content_taken c.args.payload.now _ _ _ w.len.result kept.written (grind (arith, common_steps)) in
          grind (arith, common_steps, taken)
      | else-eq w ↦ grind (arith, common_steps, none)
    ]
