-- The data of requests and replies as parts, one for each field (HCF_SPEC-127). Implementation choice: Command 6 is always written with two
-- bytes. If parts were swapped here or had a wrong length, the laws `written_data_are_read_again` and `fields_are_the_parts` would be
-- false.
use Rattle.std.specs.Prelude.{ℕ, ◌/◌, ◌%◌, List, [], ◌∷◌, map, None, Some}
use Rattle.std.specs.List.{flat_map}
pub use Rattle.hart_values.specs.LoopMode.{mode_byte}
use Rattle.hart_commands.specs.declared.content.ReplyContent.{ReplyContent}
use Rattle.hart_commands.specs.declared.content.ReplyContent.TheVariants as contents
use Rattle.hart_commands.specs.declared.request.Request.{Request}
use Rattle.hart_commands.specs.declared.request.Request.TheVariants as requests
use Rattle.hart_commands.specs.Groups.{identity_parts, output_parts, sensor_parts}
use Rattle.hart_commands.specs.Values.{joined, one, unit_value_parts, variable_bytes}

-- The parts of a content. All device variables of Command 9 together are one part.
abbrev pub content_parts : ReplyContent → List (List ℕ)
content_parts (contents.Identity identity) = identity_parts identity
content_parts (contents.Primary value) = unit_value_parts value
content_parts (contents.Current loop_current percent_of_range) = loop_current.0 ∷ percent_of_range.0 ∷ []
content_parts (contents.Dynamic loop_current values) = loop_current.0 ∷ flat_map unit_value_parts values
content_parts (contents.Polling address mode) = one address ∷ one mode ∷ []
content_parts (contents.Classes classes) = map one classes
content_parts (contents.Variables extended_device_status variables time_stamp) =
    one extended_device_status ∷ flat_map variable_bytes variables ∷ time_stamp ∷ []
content_parts (contents.Message message) = message ∷ []
content_parts (contents.Tag tag descriptor date) = tag ∷ descriptor ∷ date ∷ []
content_parts (contents.Sensor sensor) = sensor_parts sensor
content_parts (contents.Output output) = output_parts output
content_parts (contents.Assembly assembly) = assembly ∷ []
content_parts (contents.LongTag long_tag) = long_tag ∷ []
content_parts (contents.Counter counter) = counter ∷ []
content_parts (contents.More status) = status ∷ []
content_parts contents.Refused = []

-- The data of a content are its parts, one after another.
abbrev pub content_bytes : ReplyContent → List ℕ
content_bytes content = joined (content_parts content)

-- The parts of the data of a request, or no parts if the request has no data.
abbrev pub request_parts : Request → List (List ℕ)
request_parts (requests.SetPolling address mode) = one address ∷ one (mode_byte mode) ∷ []
request_parts (requests.ReadVariables codes) = codes ∷ []
request_parts (requests.IdentifyByTag tag) = tag ∷ []
request_parts (requests.WriteMessage message) = message ∷ []
request_parts (requests.WriteTag tag descriptor date) = tag ∷ descriptor ∷ date ∷ []
request_parts (requests.WriteAssembly assembly) = assembly ∷ []
request_parts (requests.IdentifyByLongTag long_tag) = long_tag ∷ []
request_parts (requests.WriteLongTag long_tag) = long_tag ∷ []
request_parts (requests.ResetChanged None) = []
request_parts (requests.ResetChanged (Some counter)) = (counter / 256 ∷ counter % 256 ∷ []) ∷ []
request_parts _ = []

-- The data of a request are its parts, one after another.
abbrev pub request_data : Request → List ℕ
request_data request = joined (request_parts request)
