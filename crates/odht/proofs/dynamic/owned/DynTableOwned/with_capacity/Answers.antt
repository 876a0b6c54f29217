use Rattle.std.proofs.Common.{rules, ◌≡◌, ◌≤◌, ◌∙◌, sym, ap, subst, refl, Some, Ok, Err}
use Rattle.odht_raw.specs.Words.{format_of, IsFormat}
use Rattle.odht_base.specs.Table.{fresh}
use Rattle.odht_header.proofs.lemmas.Formats.{IsFormat-format_of}
use Rattle.odht_raw.specs.Frame.{IsAccepted}
use Rattle.odht.specs.Dynamic.{dyn_plain, dyn_store}
use Rattle.odht.proofs.lemmas.DynPlain.{held, with_table}
use Rattle.odht_raw.specs.DynParts.{bytes_coding}
use Rattle.odht_raw.proofs.lemmas.Accepted.{IsAccepted-IsValidBytes}
use Rattle.odht.proofs.lemmas.NewRefusals.{fails-passed, fails-made}
use Rattle.odht.proofs.dynamic.owned.DynTableOwned.with_capacity.Given.{Over}
use Rattle.odht.proofs.dynamic.owned.DynTableOwned.with_capacity.Goals.{After-open_unchecked-table}
use Rattle.odht.proofs.dynamic.owned.DynTableOwned.with_capacity.Goals as goal

pub open_unchecked-table-requires-clause-accepted :
    goal.open_unchecked-table-requires-clause-accepted
open_unchecked-table-requires-clause-accepted g c =
    let F = format_of c.args.layout.key_len c.args.layout.value_len g.H.HashFn.hash in
    let made = c.in-Ok.ensures.ok in
    subst (IsAccepted F) (sym c.new.ensures) (IsAccepted-IsValidBytes F c.in-Ok.bytes.items (made.table, made.image))

pub returns-in-Ok-clause-err : goal.returns-in-Ok-clause-err
returns-in-Ok-clause-err g c hashes =
    let F = format_of c.args.layout.key_len c.args.layout.value_len g.H.HashFn.hash in
    record {
      answer = Ok (dyn_plain c.open_unchecked-table.result g.H.HashFn.hash);
      is = refl;
      holds = fails-made (bytes_coding F) _ _ c.new_bytes.result c.new_bytes.ensures.err _ c.in-Ok.is;
    }

pub returns-in-Err-clause-err : goal.returns-in-Err-clause-err
returns-in-Err-clause-err g c hashes =
    let F = format_of c.args.layout.key_len c.args.layout.value_len g.H.HashFn.hash in
    record {
      answer = Err c.in-Err.rejected;
      is = refl;
      holds = fails-passed (bytes_coding F) _ _ c.new_bytes.result c.new_bytes.ensures.err _ refl refl c.in-Err.is;
    }

-- the lengths fit
fits : (g : Over) (c : After-open_unchecked-table g) → IsFormat (format_of c.args.layout.key_len c.args.layout.value_len g.H.HashFn.hash)
fits g c =
    let key : c.args.layout.key_len ≤ 255 = search rules in
    let value : c.args.layout.value_len ≤ 255 = search rules in
    IsFormat-format_of _ _ _ _ key value c.in_ok-check_key_len.ensures.long g.met.H.HashFn.fits

-- the table that was opened
opened : (g : Over) (c : After-open_unchecked-table g) → c.open_unchecked-table.result ≡ dyn_store c.args.layout.key_len c.args.layout.value_len c.in-Ok.bytes.items
opened g c = c.open_unchecked-table.ensures ∙ ap (dyn_store c.args.layout.key_len c.args.layout.value_len) c.new.ensures

pub invariant_of-result : goal.invariant_of-result
invariant_of-result g c =
    let at = (goal.at.invariant_of-result g c).After-open_unchecked-table in
    let made = c.in-Ok.ensures.ok in
    held g.H.HashFn.hash _ _ _ (fits g at) made.table made.image _ (opened g at)

pub returns-in-Ok-clause-ok : goal.returns-in-Ok-clause-ok
returns-in-Ok-clause-ok g c =
    let at = (goal.at.returns-in-Ok-clause-ok g c).After-open_unchecked-table in
    let made = c.in-Ok.ensures.ok in
    with_table g.H.HashFn.hash _ _ _ (fits g at) made.table made.image _ (opened g at) (λ P. fresh c.args.max_item_count c.args.max_load_factor_percent ≡ Some P) made.new
