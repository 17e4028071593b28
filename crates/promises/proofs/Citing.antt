-- Each contract is its relation, by computation. Assumes nothing.
use Rattle.promises.specs.Relations.{Contracts}
use Rattle.promises.specs.Exported.{Exported}
use Rattle.promises.specs.ExportedTested.{ExportedTested}

pub contracts : Contracts
contracts = record {
  opening = record { free = λ κs a g. tt; says = λ κs a g x e h. h; whole = λ κs a g x e h. h };
  record_op = record { free = λ κs a g. tt; says = λ κs a g x e h. h; whole = λ κs a g x e h. h };
  finalize = record { free = λ κs a g. tt; says = λ κs a g x e h. h; whole = λ κs a g x e h. h };
  install_calendar = record { free = λ κs a g. tt; says = λ κs a g x e h. h; whole = λ κs a g x e h. h };
  install_days = record { free = λ κs a g. tt; says = λ κs a g x e h. h; whole = λ κs a g x e h. h };
  block = record { free = λ κs a g. tt; says = λ κs a g x e h. h; whole = λ κs a g x e h. h };
  block_bytes_lem = record { free = λ κs a g. tt; says = λ κs a g x e h. h; whole = λ κs a g x e h. h };
  find = record { free = λ κs a g. tt; says = λ κs a g x e h. h; whole = λ κs a g x e h. h };
  touching = record { free = λ κs a g. tt; says = λ κs a g x e h. h; whole = λ κs a g x e h. h };
  near = record { free = λ κs a g. tt; says = λ κs a g x e h. h; whole = λ κs a g x e h. h };
  read_cells = record { free = λ κs a g. tt; says = λ κs a g x e h. h; whole = λ κs a g x e h. h };
  occupation = record { free = λ κs a g. tt; says = λ κs a g x e h. h; whole = λ κs a g x e h. h };
  clock = record { free = λ κs a g. tt; says = λ κs a g x e h. h; whole = λ κs a g x e h. h };
  info = record { free = λ κs a g. tt; says = λ κs a g x e h. h; whole = λ κs a g x e h. h };
  serialize_to = record { free = λ κs a g. tt; says = λ κs a g x e h. h; whole = λ κs a g x e h. h };
  deserialize = record { free = λ κs a g. tt; says = λ κs a g x e h. h; whole = λ κs a g x e h. h };
  record_all = record { free = λ κs a g. tt; says = λ κs a g x e h. h; whole = λ κs a g x e h. h };
  find_all = record { free = λ κs a g. tt; says = λ κs a g x e h. h; whole = λ κs a g x e h. h };
  run = record { free = λ κs a g. tt; says = λ κs a g x e h. h; whole = λ κs a g x e h. h };
}

pub exported : Exported
exported = record {
  version = record { free = λ κs a g. tt; says = λ κs a g x e h. h; whole = λ κs a g x e h. h };
  length_for_lem = record { free = λ κs a g. tt; says = λ κs a g x e h. h; whole = λ κs a g x e h. h };
  opening = record { free = λ κs a g. tt; says = λ κs a g x e h. h; whole = λ κs a g x e h. h };
  record_op = record { free = λ κs a g. tt; says = λ κs a g x e h. h; whole = λ κs a g x e h. h };
  record_all = record { free = λ κs a g. tt; says = λ κs a g x e h. h; whole = λ κs a g x e h. h };
  finish = record { free = λ κs a g. tt; says = λ κs a g x e h. h; whole = λ κs a g x e h. h };
  install_calendar = record { free = λ κs a g. tt; says = λ κs a g x e h. h; whole = λ κs a g x e h. h };
  install_days = record { free = λ κs a g. tt; says = λ κs a g x e h. h; whole = λ κs a g x e h. h };
  block = record { free = λ κs a g. tt; says = λ κs a g x e h. h; whole = λ κs a g x e h. h };
  find = record { free = λ κs a g. tt; says = λ κs a g x e h. h; whole = λ κs a g x e h. h };
  find_all = record { free = λ κs a g. tt; says = λ κs a g x e h. h; whole = λ κs a g x e h. h };
  touching = record { free = λ κs a g. tt; says = λ κs a g x e h. h; whole = λ κs a g x e h. h };
  next = record { free = λ κs a g. tt; says = λ κs a g x e h. h; whole = λ κs a g x e h. h };
  last = record { free = λ κs a g. tt; says = λ κs a g x e h. h; whole = λ κs a g x e h. h };
  read_cells = record { free = λ κs a g. tt; says = λ κs a g x e h. h; whole = λ κs a g x e h. h };
  occupation = record { free = λ κs a g. tt; says = λ κs a g x e h. h; whole = λ κs a g x e h. h };
  write = record { free = λ κs a g. tt; says = λ κs a g x e h. h; whole = λ κs a g x e h. h };
  load = record { free = λ κs a g. tt; says = λ κs a g x e h. h; whole = λ κs a g x e h. h };
  clock = record { free = λ κs a g. tt; says = λ κs a g x e h. h; whole = λ κs a g x e h. h };
  info = record { free = λ κs a g. tt; says = λ κs a g x e h. h; whole = λ κs a g x e h. h };
}

pub exported_tested : ExportedTested
exported_tested = record {
  state = record { free = λ κs a g. tt; says = λ κs a g x e h. h; whole = λ κs a g x e h. h };
  record_op = record { free = λ κs a g. tt; says = λ κs a g x e h. h; whole = λ κs a g x e h. h };
  block = record { free = λ κs a g. tt; says = λ κs a g x e h. h; whole = λ κs a g x e h. h };
  find = record { free = λ κs a g. tt; says = λ κs a g x e h. h; whole = λ κs a g x e h. h };
  touching = record { free = λ κs a g. tt; says = λ κs a g x e h. h; whole = λ κs a g x e h. h };
  next = record { free = λ κs a g. tt; says = λ κs a g x e h. h; whole = λ κs a g x e h. h };
  last = record { free = λ κs a g. tt; says = λ κs a g x e h. h; whole = λ κs a g x e h. h };
  read_cells = record { free = λ κs a g. tt; says = λ κs a g x e h. h; whole = λ κs a g x e h. h };
  occupation = record { free = λ κs a g. tt; says = λ κs a g x e h. h; whole = λ κs a g x e h. h };
  write = record { free = λ κs a g. tt; says = λ κs a g x e h. h; whole = λ κs a g x e h. h };
  clock = record { free = λ κs a g. tt; says = λ κs a g x e h. h; whole = λ κs a g x e h. h };
  info = record { free = λ κs a g. tt; says = λ κs a g x e h. h; whole = λ κs a g x e h. h };
}
