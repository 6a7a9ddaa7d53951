-- The names that several proofs of this crate use: from its definitions and its code, from std and from the crates below.
pub use Rattle.hart_frame.specs.declared.heard.found.Found.{Found}
pub use Rattle.hart_frame.specs.declared.heard.miss.Miss.{Miss}
pub use Rattle.hart_frame.specs.declared.heard.miss.Miss.TheVariants.{Faulty, OnePreamble}
pub use Rattle.hart_frame.specs.declared.scan.buffer.Buffer.{Buffer}
pub use Rattle.hart_frame.specs.declared.scan.buffer.State.TheVariants.{Drained}
pub use Rattle.hart_frame.specs.declared.scan.search.SearchResult.{SearchResult}
pub use Rattle.hart_frame.specs.declared.scan.sighting.After.{After}
pub use Rattle.hart_frame.specs.declared.scan.sighting.After.TheVariants.{Damaged, End, More}
pub use Rattle.hart_frame.specs.declared.wire.fault.FrameFault.{FrameFault}
pub use Rattle.hart_frame.specs.declared.wire.fault.FrameFault.TheVariants.{Truncated}
pub use Rattle.hart_frame.specs.declared.wire.kind.FrameKind.{FrameKind}
pub use Rattle.hart_frame.specs.declared.wire.layout.Layout.{Layout}
pub use Rattle.hart_frame.specs.declared.wire.prefix.Prefix.TheVariants.{Cut}
pub use Rattle.hart_frame.specs.declared.wire.prefix.Wrong.{Wrong}
pub use Rattle.hart_frame.specs.heard.Character.{Character, faultless, faultless_bytes}
pub use Rattle.hart_frame.specs.heard.Damage.{IsHeardOrMarked}
pub use Rattle.hart_frame.specs.heard.Frames.{AreFrames, HasNoFrame, IsFirst, IsUndecided, first, moved, none}
pub use Rattle.hart_frame.specs.heard.InTheWay.{HasBodyAt, bytes_from}
pub use Rattle.hart_frame.specs.heard.Miss.{body_miss, check_miss, miss_in, miss_of, faulty_or, follows_preamble, is_start, is_preamble}
pub use Rattle.hart_frame.specs.heard.Place.{HasFrameAt, StandsIn}
pub use Rattle.hart_frame.specs.heard.Sighting.{AreSightings, Message, Missed, Seen, header_at, miss_in_whole, missed_at, sightings}
pub use Rattle.hart_frame.specs.heard.Sighting.{two_begin_in_body, missed, moved_seen, seen_miss, SeesOn}
unfoldable pub use Rattle.hart_frame.specs.heard.Sighting.{has_two_preambles}
pub use Rattle.hart_frame.specs.heard.Place.{IsStart}
pub use Rattle.hart_frame.specs.private.Prefix.{bytes_of}
pub use Rattle.hart_frame.specs.private.Buffer.{IsSound, IsWaiting, held_bytes, scan_of}
pub use Rattle.hart_frame.specs.private.Candidate.{BeginWithNone, IsWhole, MayBegin}
pub use Rattle.hart_frame.specs.private.Buffer.{Hears}
pub use Rattle.hart_frame.specs.private.Decision.{GivesSpan, HoldsWhole, IsHeldOpen, IsHeldSearched}
pub use Rattle.hart_frame.specs.private.Layout.{Describes, layout_length}
pub use Rattle.hart_frame.specs.private.Miss.{IsOfBytes, cut_miss, wrong_miss}
pub use Rattle.hart_frame.specs.private.Prefix.{IsPrefix, IsWrong}
pub use Rattle.hart_frame.specs.private.Search.{HasNoPair, HasPair, IsSearched}
pub use Rattle.hart_frame.specs.private.Sighting.{FollowsTwo, IsAsked, MayFollow, MayStandAlone, Whatever, stands_alone, IsStandingAt}
pub use Rattle.hart_frame.specs.private.Sighting.{IsUsed, AreSilent, HasBodyMiss}
pub use Rattle.hart_frame.specs.scan.Next.{AreNext}
pub use Rattle.hart_frame.specs.scan.Scanner.{GivesNothing, MovesPast, Scan, hearing, Gives, Waits}
pub use Rattle.hart_frame.specs.scan.Sighting.{heard_with}
pub use Rattle.hart_frame.specs.wire.Body.{BeginsWithBody, IsBody, IsCheckedPart}
pub use Rattle.hart_frame.specs.wire.Delimiter.{IsDelimiter, address_type, delimiter_of, kind_code}
pub use Rattle.hart_frame.specs.wire.FrameParts.{FrameParts}
pub use Rattle.hart_frame.specs.wire.Header.{HeaderParts}
unfoldable pub use Rattle.hart_frame.specs.wire.Header.{header_in}
pub use Rattle.hart_frame.specs.wire.Layout.{body_length, byte_count_place, command_place, delimiter_in, byte_count_in, address_end}
pub use Rattle.hart_frame.specs.wire.Parity.{HasEvenParity, IsCheckByte}
pub use Rattle.hart_frame.specs.wire.View.{address_of}
pub use Rattle.hart_frame.specs.wire.Refusal.{HasCheckByte, IsRefusedWith, IsTruncated, HasDelimiter, HasGoodByteCount}
pub use Rattle.hart_frame.specs.wire.View.{parts_of}
pub use Rattle.hart_values.specs.address.AddressBytes.{IsAddressBytes, first_byte}
pub use Rattle.hart_values.specs.declared.address.Address.{Address}
pub use Rattle.hart_values.specs.declared.master_id.MasterId.{MasterId}
pub use Rattle.std.proofs.Common.{Bool, IsTrue, List, MatchOption, None, Option, Some, [], add-zero, ap, append_assoc, arith, bit_and}
pub use Rattle.std.proofs.Common.{bit_xor, drop, false, fold, get_or, inl, inr, length, length-append, length-drop, ltb, map, not, refl}
pub use Rattle.std.proofs.Common.{replicate, rules, subst, suc, sym, take, take-add, take-append-drop, true, zero, ℕ, ◌%◌, ◌&&◌, ◌*◌, ◌++◌}
pub use Rattle.std.proofs.Common.{◌+◌, ◌-◌, ◌/◌, ◌<◌, ◌==◌, ◌||◌, ◌↔◌, ◌∙◌, ◌∷◌, ◌≡◌, ◌≢◌, ◌≤◌, ◌⊎◌}
pub use Rattle.std.proofs.Math.Seq.{take-append-add, take-append_seam, take-length}
pub use Rattle.std.proofs.lemmas.Bool.{false≢true}
pub use Rattle.std.proofs.lemmas.Bool.Decides.{nat_tests}
pub use Rattle.std.proofs.lemmas.Grind.{common_steps, get_or_after_one}
pub use Rattle.std.proofs.lemmas.List.{append-nil, drop-append-le, drop-drop, drop-map, drop_all, drop_at, drop_more, get_or-drop}
pub use Rattle.std.proofs.lemmas.List.{get_or-map, get_or-take, get_or_append_left, get_or_at, get_or_past, length-map, length-replicate}
pub use Rattle.std.proofs.lemmas.List.{length-take, length-take-le, map-append, take-append-le, take-map, take-take, take_all, take_at}
pub use Rattle.std.proofs.lemmas.List.{take_more, take_rest, get_or-append-add}
pub use Rattle.std.proofs.lemmas.List.Elements.{All-append, All-drop, All-from_get_or, All-take, All-replicate, All-cons, All-map, All-push}
pub use Rattle.std.proofs.lemmas.List.Elements.{All-get_or}
pub use Rattle.std.proofs.lemmas.Option.{slice_get-get_or, slice_get_cases}
pub use Rattle.std.proofs.lemmas.Slice.Zip.{AllZip-long}
pub use Rattle.std.specs.Int.{bit_at}
pub use Rattle.std.specs.List.{All, flat_map, range_with_len, slice_get, slice_range, AllZip, prefix_len}
pub use Rattle.std.specs.Option.{is_some, option_map_or, option_to_list}
