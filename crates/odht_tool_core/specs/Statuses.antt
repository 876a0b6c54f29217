-- The status with which a command ends that failed.
--     failure_status t     of the command t: not the one that says that a key is absent, or that tables differ
use Rattle.odht_tool_core.specs.declared.generated.topics.Topic.{Topic}
use Rattle.odht_tool_core.specs.declared.generated.topics.Topic.TheVariants.{Get, Delete, Diff}
use Rattle.odht_tool_core.specs.declared.status.Status.{Status}
use Rattle.odht_tool_core.specs.declared.status.Status.TheVariants.{NotDone, Trouble}

abbrev pub failure_status : Topic → Status
failure_status Get = Trouble
failure_status Delete = Trouble
failure_status Diff = Trouble
failure_status _ = NotDone
