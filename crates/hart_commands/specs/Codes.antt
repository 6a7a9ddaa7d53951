-- The response codes that have a name (HCF_SPEC-099; implementation choice for 9 and 12).
use Rattle.std.specs.Prelude.{◌==◌, ◌&&◌, if◌then◌else◌, ℕ, List, Option, None, Some, codes}

-- The name that a response code has for a command, in a reply or as the reason why request data are refused. The meaning of some codes
-- depends on the command. Such a code has a name only for the commands that are listed here.
abbrev pub code_name : (command code : ℕ) → Option (List ℕ)
code_name command code =
    if code == 0 then Some (codes "success")
    else if code == 2 then Some (codes "invalid selection")
    else if code == 5 then Some (codes "too few data bytes")
    else if code == 7 then Some (codes "in write protect mode")
    else if (code == 9) && (command == 18) then Some (codes "invalid date")
    else if (code == 9) && (command == 38) then Some (codes "counter mismatch")
    else if (code == 12) && (command == 6) then Some (codes "invalid mode")
    else if code == 16 then Some (codes "access restricted")
    else if code == 32 then Some (codes "busy")
    else if code == 64 then Some (codes "command not implemented")
    else None
