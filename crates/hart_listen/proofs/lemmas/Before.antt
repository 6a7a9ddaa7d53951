-- What the messages before a message say of it, and the last message of each master.
use Rattle.std.proofs.Common.{◌≡◌, ◌≤◌, ◌<◌, ◌+◌, ◌∙◌, ℕ, Bool, true, false, zero, suc, List, [], ◌∷◌, ◌++◌, Option, None, Some}
use Rattle.std.proofs.Common.{IfSome, ap, append-nil, arith, inl, inr, map, refl, replicate, reverse, sym}
use Rattle.std.proofs.lemmas.Bool.Decides.{nat_tests}
use Rattle.std.proofs.lemmas.Grind.{common_steps, flat_map-append}
use Rattle.std.proofs.lemmas.List.{reverse-append, reverse-reverse}
use Rattle.std.proofs.lemmas.List.Folds.{prefix_len-replicate}
use Rattle.std.specs.List.{AllByRecursion, filter, flat_map, prefix_len}
use Rattle.std.specs.Prelude.{not}
use Rattle.hart_values.specs.declared.master_id.MasterId.{MasterId}
use Rattle.hart_values.specs.declared.master_id.MasterId.TheVariants.{Primary, Secondary}
use Rattle.hart_values.specs.EachMaster.{of_master, with_master}
use Rattle.hart_frame.specs.declared.heard.found.Found.{Found}
use Rattle.hart_frame.specs.declared.heard.miss.Miss.{Miss}
use Rattle.hart_frame.specs.heard.Sighting.{Message, Missed, Seen}
use Rattle.hart_frame.specs.wire.FrameParts.{FrameParts}
use Rattle.hart_frame.specs.wire.Header.{HeaderParts}
use Rattle.hart_explain.specs.declared.before.Before.{Before}
use Rattle.hart_listen.specs.declared.last_messages.LastRequest.{LastRequest}
use Rattle.hart_listen.specs.Before.{answered, before_of, is_request, leaves_open, message_of, messages_back, replies_to}
use Rattle.hart_listen.specs.Before.{AreAlike, repeats}
use Rattle.hart_listen.specs.Before.{same_master, same_request}
use Rattle.hart_listen.specs.LastMessages.{Agree, IsOwn, KeepsOwn, LastMessages, after_reply, busy_reply, found_in, listed, open_reply}
use Rattle.hart_listen.specs.LastMessages.{recalled}
use Rattle.hart_listen.proofs.lemmas.Same.{address_self, master_self, request_same, same_or_not}

-- a frame that is the same request as another one is a request
same_is_request : (a b : FrameParts) → same_request a b ≡ true → is_request a.kind ≡ true
same_is_request a b is = grind (arith, common_steps)

-- a request leaves no request open, and a reply is the same request as no frame
request_leaves : (next frame : FrameParts) → is_request frame.kind ≡ true → leaves_open next frame ≡ false
request_leaves next frame is = grind (arith, common_steps)

reply_differs : (next frame : FrameParts) → is_request frame.kind ≡ false → same_request frame next ≡ false
reply_differs next frame is = grind (arith, common_steps)

not_true : (a : Bool) → not a ≡ true → a ≡ false
not_true true is = absurd cc
not_true false is = refl

-- what leaves a request open is a reply
leaves_replies : (request frame : FrameParts) → leaves_open request frame ≡ true → is_request frame.kind ≡ false
leaves_replies request frame is = grind (arith, common_steps)

-- a busy reply leaves its own request open
busy_leaves : (request : LastRequest) → is_request request.frame.kind ≡ true → leaves_open request.frame (busy_reply request).frame ≡ true
busy_leaves request is = rw (is, address_self request.frame.address) (grind (arith, common_steps, nat_tests))

-- a message that leaves a frame open does not count, and another reply ends the row
left_out : (next : FrameParts) (f : Found) (xs : List Found) → leaves_open next f.frame ≡ true → repeats next (f ∷ xs) ≡ repeats next xs
left_out next f xs test = rw test refl

reply_ends : (next : FrameParts) (f : Found) (xs : List Found) → is_request f.frame.kind ≡ false → leaves_open next f.frame ≡ false
    → repeats next (f ∷ xs) ≡ 0
reply_ends next f xs is test = rw (test, reply_differs next f.frame is) refl

-- of messages that are not the same request none counts, whichever are left out
none_counted : (p q : Found → Bool) (xs : List Found) → AllByRecursion (λ x. p x ≡ false) xs → prefix_len p (filter q xs) ≡ 0
none_counted p q [] all = refl
none_counted p q (x ∷ xs) all = elim (same_or_not (q x)) [
  | inl test ↦ rw (test, all.0) refl
  | inr test ↦ rw test (none_counted p q xs all.1)
]

-- what is so of a message is so of its copies
of_copies : (P : Found → Type 0) (n : ℕ) (f : Found) → P f → AllByRecursion P (replicate n f)
of_copies P zero f so = tt
of_copies P (suc n) f so = (so, of_copies P n f so)

-- what is so of a kept request and of a reply that leaves it open is so of the messages that it stands for
of_listed : (P : Found → Type 0) (request : LastRequest) → P (busy_reply request) → P (found_in request)
    → (is_open : Bool)
    → AllByRecursion P (open_reply is_open request ++ found_in request ∷ replicate request.sent_before (found_in request))
of_listed P request busy so true = (busy, (so, of_copies P request.sent_before (found_in request) so))
of_listed P request busy so false = (so, of_copies P request.sent_before (found_in request) so)

-- a kept request that is not the same as a frame counts for nothing
pub other_counted : (request : LastRequest) (frame : FrameParts) → same_request request.frame frame ≡ false
    → repeats frame (listed (Some request)) ≡ 0
other_counted request frame test =
    none_counted (λ (m : Found). same_request m.frame frame) (λ (m : Found). not (leaves_open frame m.frame)) (listed (Some request))
    (of_listed (λ m. same_request m.frame frame ≡ false) request (reply_differs frame (busy_reply request).frame refl) test
    request.is_left_open)

-- copies of a message that is not left out are not left out
copies_stay : (q : Found → Bool) (n : ℕ) (f : Found) → q f ≡ true → filter q (replicate n f) ≡ replicate n f
copies_stay q zero f test = refl
copies_stay q (suc n) f test = rw test (ap (λ xs. f ∷ xs) (copies_stay q n f test))

-- how often a frame has been sent if a kept request is the last one before it
copies_counted : (request : LastRequest) → same_request request.frame request.frame ≡ true
    → repeats request.frame (found_in request ∷ replicate request.sent_before (found_in request)) ≡ 1 + request.sent_before
copies_counted request test =
    let leaves = request_leaves request.frame request.frame (same_is_request request.frame request.frame test) in
    let all =
    copies_stay (λ (m : Found). not (leaves_open request.frame m.frame)) request.sent_before (found_in request) (ap not leaves) in
    let many = prefix_len-replicate (λ (m : Found). same_request m.frame request.frame) request.sent_before (found_in request) test in
    rw (leaves, all, test, many) refl

own_counted : (request : LastRequest) → same_request request.frame request.frame ≡ true → (is_open : Bool)
    → repeats request.frame (open_reply is_open request ++ found_in request ∷ replicate request.sent_before (found_in request))
    ≡ 1 + request.sent_before
own_counted request test true =
    rw (busy_leaves request (same_is_request request.frame request.frame test)) (copies_counted request test)
own_counted request test false = copies_counted request test

pub repeats_same : (request : LastRequest) (frame : FrameParts) → same_request request.frame frame ≡ true
    → repeats frame (listed (Some request)) ≡ 1 + request.sent_before
repeats_same request frame test =
    let same = request_same request.frame frame test in
    let self : same_request request.frame request.frame ≡ true = ap (λ x. same_request request.frame x) same ∙ test in
    ap (λ x. repeats x (listed (Some request))) (sym same) ∙ own_counted request self request.is_left_open

-- lists that agree still agree after more messages
agree_on : (more one other : List Found) → Agree one other → Agree (more ++ one) (more ++ other)
agree_on [] one other h frame = h frame
agree_on (m ∷ more) one other h frame =
    let rest = (agree_on more one other h frame).1 in
    let step : repeats frame ((m ∷ more) ++ one) ≡ repeats frame ((m ∷ more) ++ other) =
    elim (same_or_not (leaves_open frame m.frame)) [
      | inl test ↦ rw test rest
      | inr test ↦ rw (test, rest) refl
    ] in
    (refl, step)

-- counted back, the messages of later sightings come before those of earlier ones
back_on : (master : MasterId) (one more : List Seen)
    → messages_back master (one ++ more) ≡ messages_back master more ++ messages_back master one
back_on master one more =
    ap reverse (flat_map-append (message_of master) one more)
    ∙ reverse-append (flat_map (message_of master) one) (flat_map (message_of master) more)

-- after two lists of sightings whose messages agree, each later sighting has the same `answers` and `sending`
before_same : (one other : List Seen) → ((master : MasterId) → Agree (messages_back master one) (messages_back master other))
    → (more : List Seen) (s : Seen) → before_of (one ++ more) s ≡ before_of (other ++ more) s
before_same one other same more (Missed place miss header) = refl
before_same one other same more (Message found) =
    let master = found.frame.master in
    let agree = agree_on (messages_back master more) (messages_back master one) (messages_back master other) (same master) found.frame in
    rw (back_on master one more, back_on master other more, agree.0, agree.1) refl

-- what is so of all messages is so of them from the last one back
all_joined : (P : Found → Type 0) (xs ys : List Found) → AllByRecursion P xs → AllByRecursion P ys → AllByRecursion P (xs ++ ys)
all_joined P [] ys xs-all ys-all = ys-all
all_joined P (x ∷ xs) ys xs-all ys-all = (xs-all.0, all_joined P xs ys xs-all.1 ys-all)

all_back : (P : Found → Type 0) (xs : List Found) → AllByRecursion P xs → AllByRecursion P (reverse xs)
all_back P [] all = tt
all_back P (x ∷ xs) all =
    rw (reverse-append (x ∷ []) xs) (all_joined P (reverse xs) (x ∷ []) (all_back P xs all.1) (all.0, tt))

-- the messages of a master among messages of one master
own_messages : (master : MasterId) (xs : List Found) → AllByRecursion (λ f. f.frame.master ≡ master) xs
    → flat_map (message_of master) (map Message xs) ≡ xs
own_messages master [] own = refl
own_messages master (f ∷ xs) own =
    let test : same_master f.frame.master master ≡ true = rw own.0 (master_self master) in
    rw (test, own_messages master xs own.1) refl

other_messages : (master other : MasterId) (xs : List Found) → AllByRecursion (λ f. f.frame.master ≡ other) xs
    → same_master other master ≡ false → flat_map (message_of master) (map Message xs) ≡ []
other_messages master other [] own differ = refl
other_messages master other (f ∷ xs) own differ =
    let test : same_master f.frame.master master ≡ false = rw own.0 differ in
    rw (test, other_messages master other xs own.1 differ) refl

listed_own : (master : MasterId) (most : ℕ) (last : Option LastRequest) → IfSome last (IsOwn master most)
    → AllByRecursion (λ f. f.frame.master ≡ master) (reverse (listed last))
listed_own master most None own = tt
listed_own master most (Some request) own =
    all_back (λ f. f.frame.master ≡ master) (listed (Some request))
    (of_listed (λ f. f.frame.master ≡ master) request own.own own.own request.is_left_open)

own_list : (master : MasterId) (most : ℕ) (last : Option LastRequest) → IfSome last (IsOwn master most)
    → flat_map (message_of master) (map Message (reverse (listed last))) ≡ reverse (listed last)
own_list master most last own = own_messages master (reverse (listed last)) (listed_own master most last own)

other_list : (master other : MasterId) (most : ℕ) (last : Option LastRequest) → IfSome last (IsOwn other most)
    → same_master other master ≡ false → flat_map (message_of master) (map Message (reverse (listed last))) ≡ []
other_list master other most last own differ =
    other_messages master other (reverse (listed last)) (listed_own other most last own) differ

-- the messages of a master that the kept request of that master stands for
back_recalled : (master : MasterId) (most : ℕ) (last : LastMessages) → KeepsOwn most last
    → messages_back master (recalled last) ≡ listed (of_master master last)
back_recalled Primary most last own =
    let first = map Message (reverse (listed last.primary)) in
    let second = map Message (reverse (listed last.secondary)) in
    ap reverse (flat_map-append (message_of Primary) first second)
    ∙ (rw (own_list Primary most last.primary own.0, other_list Primary Secondary most last.secondary own.1 refl, append-nil) refl
    ∙ reverse-reverse (listed last.primary))
back_recalled Secondary most last own =
    let first = map Message (reverse (listed last.primary)) in
    let second = map Message (reverse (listed last.secondary)) in
    ap reverse (flat_map-append (message_of Secondary) first second)
    ∙ (rw (other_list Secondary Primary most last.primary own.0 refl, own_list Secondary most last.secondary own.1) refl
    ∙ reverse-reverse (listed last.secondary))

-- a request that counts fewer than `most` messages before it counts fewer than each greater number
own_one : (master : MasterId) (most limit : ℕ) (last : Option LastRequest) → most ≤ limit → IfSome last (IsOwn master most)
    → IfSome last (IsOwn master limit)
own_one master most limit None few own = tt
own_one master most limit (Some request) few own = record { own = own.own; few = omega (arith, few, own.few) }

pub own_more : (most limit : ℕ) (last : LastMessages) → most ≤ limit → KeepsOwn most last → KeepsOwn limit last
own_more most limit last few own =
    (own_one Primary most limit last.primary few own.0, own_one Secondary most limit last.secondary few own.1)

-- what the kept requests say of a message
pub before_is : (last : LastMessages) (most : ℕ) (f : Found) (before : Before) (of : MasterId) → KeepsOwn most last
    → f.frame.master ≡ of → before.answers ≡ answered f.frame (listed (of_master of last))
    → before.sending ≡ 1 + repeats f.frame (listed (of_master of last)) → before.preambles ≡ None
    → before ≡ before_of (recalled last) (Message f)
before_is last most f before of own is answers sending none =
    let back : messages_back f.frame.master (recalled last) ≡ listed (of_master of last) =
    ap (λ master. messages_back master (recalled last)) is ∙ back_recalled of most last own in
    rw (back, ← answers, ← sending, ← none) refl

-- a request answers nothing, and no sending of a reply is counted
pub request_unanswered : (frame : FrameParts) (messages : List Found) → is_request frame.kind ≡ true → answered frame messages ≡ None
request_unanswered frame [] is = refl
request_unanswered frame (last ∷ earlier) is =
    let no : replies_to last.frame frame ≡ false = grind (arith, common_steps, is) in rw no refl

other_requests : (frame : FrameParts) (messages : List Found) → is_request frame.kind ≡ false
    → AllByRecursion (λ (m : Found). same_request m.frame frame ≡ false) messages
other_requests frame [] is = tt
other_requests frame (last ∷ earlier) is =
    let no : same_request last.frame frame ≡ false = grind (arith, common_steps, is) in (no, other_requests frame earlier is)

pub reply_uncounted : (frame : FrameParts) (messages : List Found) → is_request frame.kind ≡ false → repeats frame messages ≡ 0
reply_uncounted frame messages is =
    none_counted (λ (m : Found). same_request m.frame frame) (λ (m : Found). not (leaves_open frame m.frame)) messages
    (other_requests frame messages is)

-- once a request is kept, it says the same as all that was heard
pub request_agrees : (start stop count : ℕ) (frame : FrameParts) (old : List Found) → is_request frame.kind ≡ true
    → count ≡ repeats frame old
    → Agree (listed (Some (record { start = start; frame = frame; sent_before = count; is_left_open = false })))
    (record { start = start; stop = stop; frame = frame } ∷ old)
request_agrees start stop count frame old is same_count = λ next.
    let kept : LastRequest = record { start = start; frame = frame; sent_before = count; is_left_open = false } in
    let f : Found = record { start = start; stop = stop; frame = frame } in
    let leaves : leaves_open next frame ≡ false = request_leaves next frame is in (
      refl,
      elim (same_or_not (same_request frame next)) [
        | inl test ↦
            let old_count : count ≡ repeats next old = same_count ∙ ap (λ x. repeats x old) (request_same frame next test) in
            let all : 1 + count ≡ repeats next (f ∷ old) = rw (leaves, test) (ap (λ x. 1 + x) old_count) in
            repeats_same kept next test ∙ all
        | inr test ↦
            let none : 0 ≡ repeats next (f ∷ old) = rw (leaves, test) refl in other_counted kept next test ∙ none
      ],
    )

-- the same after a reply: it leaves the kept request open, or nothing is kept any more
open_left_out : (request : LastRequest) (next : FrameParts) (xs : List Found) → leaves_open next (busy_reply request).frame ≡ true
    → (is_open : Bool) → repeats next (open_reply is_open request ++ xs) ≡ repeats next xs
open_left_out request next xs test true = left_out next (busy_reply request) xs test
open_left_out request next xs test false = refl

other_replies : (request : LastRequest) (f : Found) (next : FrameParts) → is_request f.frame.kind ≡ false
    → same_request request.frame next ≡ false → repeats next (f ∷ listed (Some request)) ≡ 0
other_replies request f next reply differ = elim (same_or_not (leaves_open next f.frame)) [
  | inl left ↦ left_out next f (listed (Some request)) left ∙ other_counted request next differ
  | inr stays ↦ reply_ends next f (listed (Some request)) reply stays
]

open_agrees : (request : LastRequest) (f : Found) → leaves_open request.frame f.frame ≡ true
    → Agree (listed (Some (record request { is_left_open = true }))) (f ∷ listed (Some request))
open_agrees request f is = λ next.
    let busy = busy_reply request in
    let body = found_in request ∷ replicate request.sent_before (found_in request) in
    let reply = leaves_replies request.frame f.frame is in
    let none : answered next (f ∷ listed (Some request)) ≡ None = rw reply refl in (
      sym none,
      elim (same_or_not (same_request request.frame next)) [
        | inl test ↦
            let same = request_same request.frame next test in
            let left : leaves_open next f.frame ≡ true = ap (λ x. leaves_open x f.frame) (sym same) ∙ is in
            let own : leaves_open next busy.frame ≡ true =
            ap (λ x. leaves_open x busy.frame) (sym same) ∙ busy_leaves request (same_is_request request.frame next test) in
            left_out next busy body own
            ∙ (sym (open_left_out request next body own request.is_left_open) ∙ sym (left_out next f (listed (Some request)) left))
        | inr test ↦
            other_counted (record request { is_left_open = true }) next test ∙ sym (other_replies request f next reply test)
      ],
    )

closed_counts : (request : LastRequest) (f : Found) → leaves_open request.frame f.frame ≡ false → is_request f.frame.kind ≡ false
    → (next : FrameParts) → repeats next (f ∷ listed (Some request)) ≡ 0
closed_counts request f test reply next = elim (same_or_not (leaves_open next f.frame)) [
  | inl left ↦ left_out next f (listed (Some request)) left ∙ elim (same_or_not (same_request request.frame next)) [
    | inl same ↦
        let is = request_same request.frame next same in
        let both : leaves_open request.frame f.frame ≡ true = ap (λ x. leaves_open x f.frame) is ∙ left in
        absurd (grind (arith, both, test))
    | inr differ ↦ other_counted request next differ
  ]
  | inr stays ↦ reply_ends next f (listed (Some request)) reply stays
]

reply_alone : (next : FrameParts) (f : Found) → is_request f.frame.kind ≡ false → repeats next (f ∷ []) ≡ 0
reply_alone next f reply = elim (same_or_not (leaves_open next f.frame)) [
  | inl left ↦ left_out next f [] left
  | inr stays ↦ reply_ends next f [] reply stays
]

pub reply_agrees : (last : Option LastRequest) (f : Found) → is_request f.frame.kind ≡ false
    → Agree (listed (after_reply last f.frame)) (f ∷ listed last)
reply_agrees None f reply = λ next. let none : answered next (f ∷ []) ≡ None = rw reply refl in (sym none, sym (reply_alone next f reply))
reply_agrees (Some request) f reply = elim (same_or_not (leaves_open request.frame f.frame)) [
  | inl test ↦ rw test (open_agrees request f test)
  | inr test ↦ rw test (λ next.
      let none : answered next (f ∷ listed (Some request)) ≡ None = rw reply refl in
      (sym none, sym (closed_counts request f test reply next)))
]

-- fewer requests are counted before a frame than there may be
pub few_one : (master : MasterId) (most : ℕ) (last : Option LastRequest) (frame : FrameParts) → IfSome last (IsOwn master most)
    → repeats frame (listed last) < most + 1
few_one master most None frame own = omega arith
few_one master most (Some request) frame own = elim (same_or_not (same_request request.frame frame)) [
  | inl test ↦ omega (arith, own.few, repeats_same request frame test)
  | inr test ↦ omega (arith, other_counted request frame test)
]

-- a kept request is still one of its master after a reply
pub own_after_reply : (master : MasterId) (most : ℕ) (last : Option LastRequest) (frame : FrameParts) → IfSome last (IsOwn master most)
    → IfSome (after_reply last frame) (IsOwn master (most + 1))
own_after_reply master most None frame own = tt
own_after_reply master most (Some request) frame own = elim (same_or_not (leaves_open request.frame frame)) [
  | inl test ↦ rw test (record { own = own.own; few = omega (arith, own.few) })
  | inr test ↦ rw test tt
]

-- the messages of each master agree once a message of one master was heard
heard_case : (last : LastMessages) (f : Found) (slot : Option LastRequest) (of master : MasterId) → f.frame.master ≡ of
    → Agree (listed slot) (f ∷ listed (of_master of last))
    → Agree (listed (of_master master (with_master of slot last)))
    (messages_back master (Message f ∷ []) ++ listed (of_master master last))
heard_case last f slot Primary Primary is agree =
    let own : same_master f.frame.master Primary ≡ true = ap (λ x. same_master x Primary) is in rw own agree
heard_case last f slot Primary Secondary is agree =
    let other : same_master f.frame.master Secondary ≡ false = ap (λ x. same_master x Secondary) is in
    rw other (λ next. (refl, refl))
heard_case last f slot Secondary Primary is agree =
    let other : same_master f.frame.master Primary ≡ false = ap (λ x. same_master x Primary) is in
    rw other (λ next. (refl, refl))
heard_case last f slot Secondary Secondary is agree =
    let own : same_master f.frame.master Secondary ≡ true = ap (λ x. same_master x Secondary) is in rw own agree

heard_each : (last new : LastMessages) (most : ℕ) (f : Found) (slot : Option LastRequest) (of master : MasterId) → KeepsOwn most last
    → KeepsOwn (most + 1) new → new ≡ with_master of slot last → f.frame.master ≡ of
    → Agree (listed slot) (f ∷ listed (of_master of last))
    → Agree (messages_back master (recalled new)) (messages_back master (recalled last ++ Message f ∷ []))
heard_each last new most f slot of master own kept set is agree =
    let after = back_recalled master (most + 1) new kept in
    let before = back_recalled master most last own in
    let all = back_on master (recalled last) (Message f ∷ []) in
    rw (after, all, before, set) (heard_case last f slot of master is agree)

-- the kept requests say the same of the next sightings as all earlier sightings do
pub heard_alike : (last new : LastMessages) (most : ℕ) (f : Found) (slot : Option LastRequest) (of : MasterId) → KeepsOwn most last
    → KeepsOwn (most + 1) new → new ≡ with_master of slot last → f.frame.master ≡ of
    → Agree (listed slot) (f ∷ listed (of_master of last)) → AreAlike (recalled new) (recalled last ++ Message f ∷ [])
heard_alike last new most f slot of own kept set is agree =
    before_same (recalled new) (recalled last ++ Message f ∷ []) (λ master.
    heard_each last new most f slot of master own kept set is agree)

-- what is said of sightings after a miss is what would be said of them without it
pub missed_alike : (last : List Seen) (place : ℕ) (miss : Miss) (header : Option HeaderParts)
    → AreAlike last (last ++ Missed place miss header ∷ [])
missed_alike last place miss header =
    let heard = last ++ Missed place miss header ∷ [] in
    before_same last heard (λ master frame.
    let all : messages_back master heard ≡ messages_back master last = back_on master last (Missed place miss header ∷ []) in
    (sym (ap (answered frame) all), sym (ap (repeats frame) all)))
