-- What a page keeps.
use Rattle.std.specs.Prelude.{ℕ, None, Option, slice_index_or}
use Rattle.layers.specs.declared.page.Page.{Page}

-- The byte kept at each place of the page, if any.
abbrev pub kept_of : Page → ℕ → Option ℕ
kept_of p i = slice_index_or p.kept i None
