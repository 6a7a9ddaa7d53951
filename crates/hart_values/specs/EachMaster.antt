-- One value for each of the two masters (HCF_SPEC-081).
use Rattle.hart_values.specs.declared.each_master.EachMaster.{EachMaster}
use Rattle.hart_values.specs.declared.master_id.MasterId.{MasterId}
use Rattle.hart_values.specs.declared.master_id.MasterId.TheVariants.{Primary, Secondary}

-- The value that belongs to this master.
abbrev pub of_master : {A : Type 0} → MasterId → EachMaster A → A
of_master Primary each = each.primary
of_master Secondary each = each.secondary

-- The values of both masters, with this master's value replaced by a new value.
abbrev pub with_master : {A : Type 0} → MasterId → A → EachMaster A → EachMaster A
with_master Primary a each = record { primary = a; secondary = each.secondary }
with_master Secondary a each = record { primary = each.primary; secondary = a }
