use Rattle.std.proofs.Common.{◌≡◌, Some, None, sym, ap, ◌∙◌}
use Rattle.std.specs.Option.{option_map}
use Rattle.version.specs.Reader.{assembled}
use Rattle.version.specs.View.{three, seen}
use Rattle.version.proofs.Parts.{parts_told, assembled-yes, assembled-no_pre, assembled-no_build}
use Rattle.version.proofs.Whole.{tells_same}
use Rattle.version.proofs.reader.parse_version.Goals as goal
use Rattle.version.proofs.reader.parse_version.Goals.{then-not-takes_all-via-then-not-takes_all, then-not-takes_all-via-else-not-takes_all+then-not-takes_all-2}

pub returns : goal.returns
returns c =
    let before = option_map (λ x. x.now) c.cut-2.result.1 in
    let after = option_map (λ x. x.now) c.cut.result.1 in
    let e = parts_told c.args.text.now c.cut.result.0.now c.cut-2.result.0.now before after (option_map three c.read_core.result) c.cut.ensures.front c.cut.ensures.rest c.cut-2.ensures.front c.cut-2.ensures.rest c.read_core.ensures in
    let p = sym (e ∙ ap (λ n. assembled (option_map three n) before after) c.in_ok-core.was ∙ assembled-yes (three c.in_ok-core.core) before after (sym c.if-not-takes_all.ensures) (sym c.if-not-takes_all-2.ensures)) in
    record {
      told = p;
      tells = tells_same c.args.text.now _ p;
    }

pub returns-in_err-core : goal.returns-in_err-core
returns-in_err-core c =
    let before = option_map (λ x. x.now) c.cut-2.result.1 in
    let after = option_map (λ x. x.now) c.cut.result.1 in
    let e = parts_told c.args.text.now c.cut.result.0.now c.cut-2.result.0.now before after (option_map three c.read_core.result) c.cut.ensures.front c.cut.ensures.rest c.cut-2.ensures.front c.cut-2.ensures.rest c.read_core.ensures in
    let p = sym (e ∙ ap (λ n. assembled (option_map three n) before after) c.in_err-core.was ∙ ap (option_map seen) (sym c.from_residual.ensures)) in
    record {
      told = p;
      tells = tells_same c.args.text.now _ p;
    }

pub returns-then-not-takes_all : goal.returns-then-not-takes_all
returns-then-not-takes_all c =
    let before = option_map (λ x. x.now) c.cut-2.result.1 in
    let after = option_map (λ x. x.now) c.cut.result.1 in
    let core = three c.in_ok-core.core in
    let e = parts_told c.args.text.now c.cut.result.0.now c.cut-2.result.0.now before after (option_map three c.read_core.result) c.cut.ensures.front c.cut.ensures.rest c.cut-2.ensures.front c.cut-2.ensures.rest c.read_core.ensures ∙ ap (λ n. assembled (option_map three n) before after) c.in_ok-core.was in
    let refused : assembled (Some core) before after ≡ None =
    elim c.then-not-takes_all.branch [
      | then-not-takes_all-via-then-not-takes_all w ↦ assembled-no_pre core before after (sym w.if-not-takes_all.ensures)
      | then-not-takes_all-via-else-not-takes_all+then-not-takes_all-2 w ↦ assembled-no_build core before after (sym w.if-not-takes_all-2.ensures)
    ] in
    let p = sym (e ∙ refused) in
    record { told = p; tells = tells_same c.args.text.now _ p }
