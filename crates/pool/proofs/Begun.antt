-- An opening that the rules accept begins a life.
use Rattle.std.proofs.Common.{◌≡◌, Ok, Err, Result, ◌∙◌, subst}
use Rattle.terms.specs.Refusals.{WellNamed}
use Rattle.book.specs.declared.Book.{Ghosts as BookMeaning}
use Rattle.share.specs.declared.SharingRule.{Ghosts as RuleMeaning}
use Rattle.pool.specs.Opening.{Opening}
use Rattle.pool.specs.Promises.{Opens, Begins}
use Rattle.pool.specs.Life.{began}
use Rattle.pool.specs.declared.Pool.{Pool}
use Rattle.pool.specs.declared.days.OpenDay.{OpenDay}
use Rattle.pool.specs.declared.opening.Parts.{Parts}
use Rattle.pool.specs.declared.opening.Unopened.{Unopened}
use Rattle.pool.proofs.Laws.{law}
use Rattle.pool.proofs.Named.{opening_named}

pub begins : {X Y Z : Type 0} (b : BookMeaning X) (c : BookMeaning Y) (m : RuleMeaning Z) (parts : Parts X Y Z) (o : Opening) (r : Result (Pool X Y Z × OpenDay) (Unopened X Y Z)) → Opens b c m parts o r → Begins b c m parts o r
begins b c m parts o (Ok p) h = (h, (h.0, h.1), law (began o) _ (h.0, h.1))
begins b c m parts o (Err u) h = (h, subst WellNamed h.0 (opening_named o))
