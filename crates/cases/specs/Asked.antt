-- What one request of a case leaves.
use Rattle.std.specs.Prelude.{[], ◌∷◌}
use Rattle.kinds.specs.declared.ecbs.EcbList.{EcbList}
use Rattle.kinds.specs.declared.names.NameList.{NameList}
use Rattle.kinds.specs.declared.requests.Request.{Request}
use Rattle.names.specs.Named.{names_in}
use Rattle.ecbs.specs.Blocks.{ecbs_in}
use Rattle.services.specs.Serve.{served_of}
use Rattle.services.specs.declared.Tables.{Tables}

-- the tables after it, with a codes area of four bytes that are hex ee before
abbrev pub next_tables : Tables → Request → NameList → EcbList → Tables
next_tables t request names ecbs =
    (served_of
    t
    (record {
      request = request;
      names = names_in names;
      ecbs = ecbs_in ecbs;
      area = 238 ∷ 238 ∷ 238 ∷ 238 ∷ [];
    })
    ).outcome.tables
