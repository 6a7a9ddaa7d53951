-- What `hart master` writes for the lines that it reads (implementation choice).
use Rattle.std.specs.Prelude.{◌≡◌, ◌⊎◌, ℕ, Err, unwrap_or}
use Rattle.hart_values.specs.declared.master_id.MasterId.{MasterId}
use Rattle.hart_values.specs.declared.master_id.MasterId.TheVariants.{Primary, Secondary}
use Rattle.hart_line.specs.script.Words.{HasNoValue, IsWho}
use Rattle.hart_cli.specs.ImageWord.{OutcomeRelation}
use Rattle.hart_station.specs.declared.master_lines.MasterSettings.{MasterSettings}
use Rattle.hart_cli.specs.declared.fault.CliFault.TheVariants.{BadWord}
use Rattle.hart_station.specs.MasterLines.{ServesMasterLine, new_master}
use Rattle.hart_cli.specs.master.MasterWords.{MasterWords}
use Rattle.hart_cli.specs.session.Session.{ServedOutcome}

-- A master with these settings answered the lines that the call read.
abbrev pub MasterOutcome : MasterSettings → OutcomeRelation
MasterOutcome settings = ServedOutcome ServesMasterLine (new_master settings)

-- How many character times the masters of `hart sim` wait for a reply: 33 for the primary master, and 41 for the secondary.
abbrev pub usual_limit : MasterId → ℕ
usual_limit Primary = 33
usual_limit Secondary = 41

-- The settings that the words give to this master. If the words have no reply timeout, this master has the same timeout as in `hart sim`.
abbrev pub settings_of : MasterId → MasterWords → MasterSettings
settings_of who words = record {
  who = who;
  retries = words.retries;
  reply_limit = unwrap_or words.limit (usual_limit who);
  preambles = words.preambles;
}

-- If the word for the master is neither `P` nor `S`, the call reported this word as bad, and touched neither the reader nor the writer.
-- Otherwise the master with the settings of the words answered the lines that the call read.
abbrev pub MasterCallOutcome : MasterWords → OutcomeRelation
MasterCallOutcome words reader reader_after writer writer_after result =
    (HasNoValue (IsWho words.who) × (result ≡ Err (BadWord 1)) × (reader_after ≡ reader) × (writer_after ≡ writer))
    ⊎ ((who : MasterId) × IsWho words.who who × MasterOutcome (settings_of who words) reader reader_after writer writer_after result)
