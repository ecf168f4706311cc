use mathlib.Core.Path.{fun_ext}
use Rattle.layers.proofs.Pages.{none_kept}
use Rattle.layers.proofs.page.Page.new.Goals as goal

pub returns-clause-kept : goal.returns-clause-kept
returns-clause-kept c = fun_ext (none_kept 256)
