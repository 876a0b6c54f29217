use Rattle.std.proofs.lemmas.List.{append_assoc}
use Rattle.odht_header.proofs.lemmas.ErrorTexts.{debug_list-bytes}
use Rattle.odht_header.proofs.error.write_contents_error.Goals as goal

pub returns-in-ControlMismatch : goal.returns-in-ControlMismatch
returns-in-ControlMismatch g c = rw c.in-ControlMismatch.is (simp append_assoc c.write-in-ControlMismatch.ensures.writes)

pub returns-in-BadFreeControl : goal.returns-in-BadFreeControl
returns-in-BadFreeControl g c = rw c.in-BadFreeControl.is (simp append_assoc c.write-in-BadFreeControl.ensures.writes)

pub returns-in-MirrorMismatch : goal.returns-in-MirrorMismatch
returns-in-MirrorMismatch g c = rw c.in-MirrorMismatch.is (simp append_assoc c.write-in-MirrorMismatch.ensures.writes)

pub returns-in-WrongItemCount : goal.returns-in-WrongItemCount
returns-in-WrongItemCount g c = rw c.in-WrongItemCount.is (simp append_assoc c.write-in-WrongItemCount.ensures.writes)

pub returns-in-TooManyItems : goal.returns-in-TooManyItems
returns-in-TooManyItems g c = rw c.in-TooManyItems.is (simp append_assoc c.write-in-TooManyItems.ensures.writes)

pub returns-in-SearchTooLong : goal.returns-in-SearchTooLong
returns-in-SearchTooLong g c = rw c.in-SearchTooLong.is (simp append_assoc c.write-in-SearchTooLong.ensures.writes)

pub returns-in-Unreachable : goal.returns-in-Unreachable
returns-in-Unreachable g c = rw c.in-Unreachable.is (simp append_assoc c.write-in-Unreachable.ensures.writes)

pub returns-in-NonZeroPadding : goal.returns-in-NonZeroPadding
returns-in-NonZeroPadding g c = rw c.in-NonZeroPadding.is (rw (debug_list-bytes c.in-NonZeroPadding.found) at c.write-in-NonZeroPadding.ensures.writes)
