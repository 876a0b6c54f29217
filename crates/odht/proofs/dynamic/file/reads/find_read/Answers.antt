use Rattle.std.proofs.Common.{subst}
use Rattle.odht_raw.specs.Words.{Format, format_of}
use Rattle.odht_raw.specs.Reads.{read_entries, read_groups}
use Rattle.odht_raw.specs.Searches.{IsSearch}
use Rattle.odht.proofs.lemmas.Files.{found_read, free_read, neither_read}
use Rattle.odht.proofs.dynamic.file.reads.find_read.Goals as goal

pub returns-in-Ok-clause-given : goal.returns-in-Ok-clause-given
returns-in-Ok-clause-given g c B h held =
    let p = c.args.place.now in
    let F : Format = format_of p.layout.key_len p.layout.value_len g.H.HashFn.hash in
    found_read F p B c.args.key.now c.in-Ok-Found-default.groups c.requires.slots c.in-Ok-Found-default.slot c.in-Ok.value (subst (IsSearch F (read_entries p B) c.args.key.now (read_groups p B 0) (read_groups p B c.in-Ok-Found-default.groups)) c.in-Ok-Found-default.field-0-0-is (c.in-Ok-Found-default.ensures.given B h held)) (c.in-Ok.ensures.given B h held)

pub returns-in-Ok-Free-default-clause-given : goal.returns-in-Ok-Free-default-clause-given
returns-in-Ok-Free-default-clause-given g c B h held =
    let p = c.args.place.now in
    let F : Format = format_of p.layout.key_len p.layout.value_len g.H.HashFn.hash in
    free_read F p B c.args.key.now c.in-Ok-Free-default.groups c.requires.slots _ (subst (IsSearch F (read_entries p B) c.args.key.now (read_groups p B 0) (read_groups p B c.in-Ok-Free-default.groups)) c.in-Ok-Free-default.field-0-0-is (c.in-Ok-Free-default.ensures.given B h held))

pub returns-in-Ok-Neither-default-clause-given : goal.returns-in-Ok-Neither-default-clause-given
returns-in-Ok-Neither-default-clause-given g c B h held =
    let p = c.args.place.now in
    let F : Format = format_of p.layout.key_len p.layout.value_len g.H.HashFn.hash in
    neither_read F p B c.args.key.now c.in-Ok-Neither-default.groups c.requires.slots (subst (IsSearch F (read_entries p B) c.args.key.now (read_groups p B 0) (read_groups p B c.in-Ok-Neither-default.groups)) c.in-Ok-Neither-default.field-0-0-is (c.in-Ok-Neither-default.ensures.given B h held))
