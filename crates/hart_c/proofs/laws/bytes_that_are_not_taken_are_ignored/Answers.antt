use Rattle.std.proofs.Common.{◌≡◌, ◌≤◌, ◌⊎◌, inl, inr, ℕ, List, Ok, Some, arith, length, take, subst, sym}
use Rattle.std.proofs.lemmas.List.{length-take, take_all, take_min}
use Rattle.hart_commands.specs.Commands.{reply_rows, request_rows}
use Rattle.hart_commands.specs.Parts.{content_bytes}
use Rattle.hart_commands.specs.RequestData.{request_data, request_reading}
use Rattle.hart_commands.specs.ReplyData.{reply_payload, reply_reading}
use Rattle.hart_commands.specs.declared.reply.Reply.{Reply}
use Rattle.hart_commands.specs.declared.request.Request.{Request}
use Rattle.hart_commands.proofs.lemmas.Laws.{requests_have_their_command, written_data_are_their_request}
use Rattle.hart_c.specs.Data.{IsShown, ReplyOutcome, RequestOutcome}
use Rattle.hart_c.specs.declared.data.HartField.{HartField}
use Rattle.hart_c.specs.declared.data.HartReading.{HartReading}
use Rattle.hart_c.proofs.laws.bytes_that_are_not_taken_are_ignored.Goals as goal

-- taking the first `n` bytes twice gives the same as taking them once
again : (n : ℕ) (bytes : List ℕ) → take n (take n bytes) ≡ take n bytes
again n bytes = take_all n (take n bytes) (omega (arith, length-take n bytes))

-- if the first `n` bytes of a list are only `m` bytes, they are its first `m` bytes
as_many : (n : ℕ) (bytes : List ℕ) → take (length (take n bytes)) bytes ≡ take n bytes
as_many n bytes = rw length-take (take_min n bytes)

-- a payload that is cut after the taken bytes has the same reply and the same outcome
reply_alike : (command : ℕ) (payload front : List ℕ) (reply : Reply) (before after : List HartField) (reading : HartReading)
    → reply_reading command payload ≡ Some reply → reply_reading command front ≡ Some reply
    → ReplyOutcome command payload before after reading
    → (reading.taken ≡ length (reply_payload reply)) × ReplyOutcome command front before after reading
reply_alike command payload front reply before after reading read is told =
    let shown : IsShown 2 (reply_rows command) (content_bytes reply.content) reply.code reply.status.0 before after reading =
    rw read at told in
    (grind (arith, shown.told), rw is shown)

pub returns-clause-replies : goal.returns-clause-replies
returns-clause-replies c command payload reply before after reading read told =
    let laws = c.written_payloads_are_read_again.ensures in
    let front = take (length (reply_payload reply)) payload in
    let kept = laws.kept command payload reply read in
    let made = laws.well_made command payload reply read in
    let own = λ (number : ℕ). reply_reading number (reply_payload reply) ≡ Some reply in
    let read_as = λ (front : List ℕ). reply_reading command front ≡ Some reply in
    let is : reply_reading command front ≡ Some reply = subst read_as kept (subst own made.1 (laws.again reply made.0)) in
    let alike = reply_alike command payload front reply before after reading read is told in
    let P = λ (taken : ℕ). ReplyOutcome command (take taken payload) before after reading in
    subst P (sym alike.0) alike.1

pub returns-clause-two : goal.returns-clause-two
returns-clause-two c command payload reply before after reading read told =
    let taken = (reply_alike command payload payload reply before after reading read read told).0 in omega (arith, taken)

-- data that are cut after the taken bytes have the same request and the same outcome
request_alike : (command : ℕ) (bytes front : List ℕ) (request : Request) (before after : List HartField) (reading : HartReading)
    → request_reading command bytes ≡ Ok request → request_reading command front ≡ Ok request
    → take (length (request_data request)) front ≡ take (length (request_data request)) bytes
    → RequestOutcome command bytes before after reading
    → (reading.taken ≡ length (take (length (request_data request)) bytes)) × RequestOutcome command front before after reading
request_alike command bytes front request before after reading read is same told =
    let P = λ (taken : List ℕ). IsShown 0 (request_rows command) taken 0 0 before after reading in
    let shown : P (take (length (request_data request)) bytes) = rw read at told in
    (grind (arith, shown.told), rw is (subst P (sym same) shown))

either_fits : (n m : ℕ) → (n ≤ m) ⊎ (m ≤ n)
either_fits n m = grind arith

pub returns-clause-requests : goal.returns-clause-requests
returns-clause-requests c command bytes request before after reading fit read told =
    let laws = c.read_data_begin_as_written.ensures in
    let n = length (request_data request) in
    let front = take n bytes in
    let made = requests_have_their_command command bytes request read in
    let whole : n ≤ length bytes → request_reading command front ≡ Ok request =
    λ enough. rw (laws.whole command bytes request fit read enough, ← made.0) (written_data_are_their_request request made.1) in
    let few : length bytes ≤ n → request_reading command front ≡ Ok request = λ short. rw (take_all n bytes short) read in
    let is : request_reading command front ≡ Ok request =
    elim (either_fits n (length bytes)) [ inl enough ↦ whole enough | inr short ↦ few short ] in
    let alike = request_alike command bytes front request before after reading read is (again n bytes) told in
    let P = λ (taken : ℕ). RequestOutcome command (take taken bytes) before after reading in
    subst P (sym alike.0) (rw as_many alike.1)
