-- The laws of stations, for the proofs of this crate and of the crates above it.
pub use Rattle.hart_station.proofs.lemmas.DeviceLines.{one_line as lines_have_one_answer-device}
pub use Rattle.hart_station.proofs.lemmas.One.{one_line as lines_have_one_answer-master}
pub use Rattle.hart_station.proofs.lemmas.OneWay.{messages_have_one_line}
pub use Rattle.hart_station.proofs.lemmas.Promise.{keeps_promises as sessions_keep_their_promises}
