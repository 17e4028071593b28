-- What the reads hand out in the words of layout. Each definition is injective (crate promises, Meanings).
use Rattle.layout.specs.Relations.{Counts, Fields}
use Rattle.index_read.specs.declared.Found.{Found}
use Rattle.index_read.specs.declared.Block.{Block}

abbrev pub counts_given : Found → Counts
counts_given f = record { count = f.count; visited = f.visited }

abbrev pub fields_given : Block → Fields
fields_given b = record { kind = b.kind; first = b.first; length = b.length; created = b.created; destroyed = b.destroyed; offset = b.offset }
